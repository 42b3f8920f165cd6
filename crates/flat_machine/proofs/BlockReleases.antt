-- Two states that release one block hold the same PIN, and so do twins.
use Rattle.des_core.specs.TripleDes.{tdea_bytes}
use Rattle.flat_machine.proofs.EntryCommands.{pass-request_in_work, pass_first}
use Rattle.flat_machine.proofs.HeldRuns.{held_decimal}
use Rattle.flat_machine.proofs.LengthRuns.{sound_runs}
use Rattle.flat_machine.proofs.TwinLemmas.{some_one}
use Rattle.flat_machine.proofs.TwinRuns.{twins_end_alike}
use Rattle.flat_machine.proofs.WorkChains.{holds-or_refused, holds-unless, holds-unless_refused}
use Rattle.flat_machine.specs.Clearing.{CommandInWork}
use Rattle.flat_machine.specs.Commands.{work_of}
use Rattle.flat_machine.specs.Decisions.{denial, or_denied, with_key_if}
use Rattle.flat_machine.specs.Disclosure.{DifferInDigits, IsFormedBlock, IsTakenBlock, ReleaseOneBlock, is_padded}
use Rattle.flat_machine.specs.Facts.{IsStart}
use Rattle.flat_machine.specs.FinishSteps.{release_with, released}
use Rattle.flat_machine.specs.Machine.{Act, run_from}
use Rattle.flat_machine.specs.PinCommands.{admit_refusal, ready_refusal}
use Rattle.flat_machine.specs.PinFacts.{passes_submit}
use Rattle.flat_machine.specs.Settings.{standard_setting}
use Rattle.flat_machine.specs.Sound.{Sound, allowed}
use Rattle.flat_machine.specs.State.{Flat, Shared, device_refusal, is_off}
use Rattle.flat_machine.specs.Twins.{Twins}
use Rattle.flat_machine.specs.declared.types.Work.{Work}
use Rattle.flat_machine.specs.declared.types.Work.TheVariants as work
use Rattle.key_attributes.specs.declared.Use.TheVariants as purpose
use Rattle.key_table.specs.KeyRows.{KeyRows}
use Rattle.key_table.specs.Permits.{permit}
use Rattle.key_table.specs.declared.Denied.{Denied}
use Rattle.pad_steps.specs.Accounts.{all_decimal}
use Rattle.pad_steps.specs.Formed.{all_nibbles, is_block_request, is_optional_block, is_optional_name}
use Rattle.pad_steps.specs.declared.answers.Answer.{Answer}
use Rattle.pad_steps.specs.declared.answers.Answer.TheVariants as answer
use Rattle.pad_steps.specs.declared.answers.Refusal.{Refusal}
use Rattle.pad_steps.specs.declared.answers.Refusal.TheVariants as refusal
use Rattle.pad_steps.specs.declared.commands.BlockRequest.{BlockRequest}
use Rattle.pad_steps.specs.declared.commands.Command.{Command}
use Rattle.pad_steps.specs.declared.commands.Command.TheVariants as command
use Rattle.pad_steps.specs.declared.commands.PinRequest.{PinRequest}
use Rattle.pad_steps.specs.declared.commands.PinRequest.TheVariants as pin
use Rattle.pad_words.specs.Names.{is_key_name}
use Rattle.pad_words.specs.declared.bytes.Block.{Block}
use Rattle.pin_blocks.specs.BlockWork.{admit_block, block_bytes, fill_count, ready_block}
use Rattle.pin_blocks.specs.Blocks.{fits_form, is_supported, longest}
use Rattle.pin_blocks.specs.TakenBlocks.{IsTaken}
use Rattle.pin_blocks.specs.declared.work.AdmitFault.{AdmitFault}
use Rattle.pin_blocks.specs.declared.work.AdmitFault.TheVariants as unfit
use Rattle.pin_blocks.specs.declared.work.PinFault.{PinFault}
use Rattle.pin_blocks.specs.declared.work.PinFault.TheVariants as unready
use Rattle.request_queue.specs.Requests.{request_in_work}
use Rattle.std.proofs.Common.{ap, arith, option_map, subst, sym, ◌∙◌}
use Rattle.std.proofs.lemmas.List.FromFn.{length-map-range_with_len}
use Rattle.std.specs.List.{range_with_len}
use Rattle.std.specs.Prelude.{Bool, Err, IsTrue, List, None, Ok, Option, Result, Some, false, if◌then◌else◌, is_some, length, map, nat_le, nat_lt, not, refl, true, ℕ, ◌&&◌, ◌==◌, ◌||◌, ◌≡◌, ◌≤◌}
use Rattle.flat_machine.proofs.BlockForms.{BlockLaws, bytes_fix, customer_nibbles, no_fault, pad_fits, pad_used, parts_of, small_each}

-- a block that comes to be released, with its keys

module _ (Holds : Work → Type 0) (refused : (r : Refusal) (accused : Option (List ℕ)) → Holds (work.Refuse r accused)) where
  holds-denied : (name : List ℕ) (d : Result (List ℕ) Denied) (go_on : List ℕ → Work) → ((v : List ℕ) → d ≡ Ok v → Holds (go_on v)) → Holds (or_denied name d go_on)
  holds-denied name (Ok v) go_on k = k v refl
  holds-denied name (Err why) go_on k = refused (denial why) (Some name)

-- the second key is that of its name, and there is none without a name
abbrev SecondKey : KeyRows → Option (List ℕ) → Option (List ℕ) → Type 0
SecondKey rows None second = second ≡ None
SecondKey rows (Some name) second = (v : List ℕ) × (permit rows name purpose.PinRemote ≡ Ok v) × (second ≡ Some v)

abbrev BlockReady : KeyRows → BlockRequest → ℕ → Work → Type 0
BlockReady rows b n (work.Release r first second draws) = (r ≡ pin.Block b) × (permit rows b.key purpose.PinRemote ≡ Ok first) × SecondKey rows b.second second × (ready_block b.form n ≡ Ok draws)
BlockReady rows b n other = Unit {0}

holds-second : (Holds : Work → Type 0) → ((r : Refusal) (accused : Option (List ℕ)) → Holds (work.Refuse r accused)) → (rows : KeyRows) (o : Option (List ℕ)) (go_on : Option (List ℕ) → Work) → ((second : Option (List ℕ)) → SecondKey rows o second → Holds (go_on second)) → Holds (with_key_if rows o purpose.PinRemote go_on)
holds-second Holds refused rows None go_on k = k None refl
holds-second Holds refused rows (Some name) go_on k = holds-denied Holds refused name (permit rows name purpose.PinRemote) _ (λ v is. k (Some v) (v, is, refl))

block_ready : (fill : ℕ → ℕ) (p : Shared) (n : ℕ) (b : BlockRequest) → BlockReady p.keys b n (work_of (standard_setting fill) p n (command.Pin (pin.Block b)))
block_ready fill p n b =
    let ready = BlockReady p.keys b n in
    let refused : (why : Refusal) (accused : Option (List ℕ)) → ready (work.Refuse why accused) = λ why accused. tt in
    holds-unless_refused ready refused (device_refusal p.device) _
    (holds-denied ready refused b.key (permit p.keys b.key purpose.PinRemote) _ (λ first key.
    holds-second ready refused p.keys b.second _ (λ second other.
    holds-unless ready refused (n == 0) refusal.NoPin _ (λ some.
    holds-or_refused ready refused ready_refusal (ready_block b.form n) (λ draws. work.Release (pin.Block b) first second draws) (λ draws is. (refl, key, other, is))))))

-- what a released block was made of
record MadeOf (fill : ℕ → ℕ) (p : Shared) (b : BlockRequest) (digits : List ℕ) (x : Answer) : Type 0 where
  pub first : List ℕ
  pub second : Option (List ℕ)
  pub draws : ℕ
  pub key : permit p.keys b.key purpose.PinRemote ≡ Ok first
  pub other : SecondKey p.keys b.second second
  pub ready : ready_block b.form (length digits) ≡ Ok draws
  pub told : answer.Block (record { 0 = block_bytes tdea_bytes b digits first second (map fill (range_with_len p.drawn draws)) }) ≡ x

made_of : (fill : ℕ → ℕ) (p : Shared) (b : BlockRequest) (digits : List ℕ) (x : Answer) (v : Work) → BlockReady p.keys b (length digits) v → released (standard_setting fill) p digits v ≡ Some x → MadeOf fill p b digits x
made_of fill p b digits x (work.Release r first second draws) ready e =
    let fills = map fill (range_with_len p.drawn draws) in
    let at : released (standard_setting fill) p digits (work.Release (pin.Block b) first second draws) ≡ Some x = subst (λ (q : PinRequest). released (standard_setting fill) p digits (work.Release q first second draws) ≡ Some x) ready.0 e in
    record { first = first; second = second; draws = draws; key = ready.1; other = ready.2; ready = ready.3; told = some_one _ _ at }
made_of fill p b digits x work.Waits ready e = cc
made_of fill p b digits x (work.Refuse why accused) ready e = cc
made_of fill p b digits x (work.Answer y) ready e = cc
made_of fill p b digits x (work.Maintain on) ready e = cc
made_of fill p b digits x (work.Keep slot row y from_part) ready e = cc
made_of fill p b digits x (work.Erase slot) ready e = cc
made_of fill p b digits x work.EraseAll ready e = cc
made_of fill p b digits x work.Load ready e = cc

abbrev ok_key : List ℕ → Result (List ℕ) Denied
ok_key value = Ok value

same_ok : (v w : List ℕ) → ok_key v ≡ ok_key w → v ≡ w
same_ok v w e = cc

one_key : (v w : List ℕ) (d : Result (List ℕ) Denied) → d ≡ Ok v → d ≡ Ok w → v ≡ w
one_key v w d e f = same_ok v w (sym e ∙ f)

same_second : (rows : KeyRows) (o x y : Option (List ℕ)) → SecondKey rows o x → SecondKey rows o y → x ≡ y
same_second rows None x y e f = e ∙ sym f
same_second rows (Some name) x y e f = e.2 ∙ ap (λ (v : List ℕ). Some v) (one_key e.0 f.0 (permit rows name purpose.PinRemote) e.1 f.1) ∙ sym f.2

abbrev ok_count : ℕ → Result ℕ PinFault
ok_count count = Ok count

named_second : (rows : KeyRows) (o second : Option (List ℕ)) → SecondKey rows o second → is_some second ≡ is_some o
named_second rows None second e = ap (λ (x : Option (List ℕ)). is_some x) e
named_second rows (Some name) second e = ap (λ (x : Option (List ℕ)). is_some x) e.2

ready_parts : (t : Bool) (r : PinFault) (x y : ℕ) → (if t then Err r else Ok x) ≡ Ok y → (t ≡ false) × (x ≡ y)
ready_parts true r x y e = cc
ready_parts false r x y e = (refl, same_count x y e)
  where
    same_count : (x y : ℕ) → ok_count x ≡ ok_count y → x ≡ y
    same_count x y e = cc

request_parts : (a b c d e f : Bool) → (a && b && c && d && e && f) ≡ true → (c ≡ true) × (e ≡ true) × (f ≡ true)
request_parts true true true true true true h = (refl, refl, refl)
request_parts true true true true true false h = cc
request_parts true true true true false f h = cc
request_parts true true true false e f h = cc
request_parts true true false d e f h = cc
request_parts true false c d e f h = cc
request_parts false b c d e f h = cc

admitted_parts : (s f u : Bool) → (if not s then Some unfit.FormatNotSupported else (if not f || u then Some unfit.InvalidData else None)) ≡ None → (s ≡ true) × (f ≡ true)
admitted_parts true true u e = (refl, refl)
admitted_parts true false u e = cc
admitted_parts false f u e = cc

-- a request in the ranges and lengths of the code's types is formed
pub request_formed : (b : BlockRequest) → IsTrue (is_block_request b) → IsFormedBlock b
request_formed b e =
    let parts = request_parts (is_key_name b.key) (is_optional_name b.second) (is_optional_block b.xor) (nat_le (length b.customer) 24) (all_nibbles b.customer) (nat_le b.pad 15) e in
    record { padding = λ padded. parts.2; coordination = λ co. parts.1; mixed = λ second. parts.0 }

taken_by : (fill : ℕ → ℕ) (b : BlockRequest) → IsTakenBlock b → (digits : List ℕ) (drawn draws : ℕ) → all_decimal digits ≡ true → ready_block b.form (length digits) ≡ Ok draws → IsTaken b.form (parts_of b digits (map fill (range_with_len drawn draws)))
taken_by fill b taken digits drawn draws decimal ready =
    let admits = admitted_parts (is_supported b.form) (fits_form b.form b.customer) (is_some b.xor && not (is_some b.second)) taken.admitted in
    let short = nat_lt (length digits) 4 || nat_lt (longest b.form) (length digits) in
    let lengths = ready_parts short unready.LengthError (fill_count b.form (length digits)) draws ready in
    record {
      faultless = no_fault (is_supported b.form) (fits_form b.form b.customer) (nat_lt 15 (pad_used b.form b.pad)) short admits.0 admits.1 (pad_fits (is_padded b.form) b.pad taken.formed.padding) lengths.0;
      decimal = small_each 10 digits decimal;
      nibbles = customer_nibbles b.form b.customer admits.1 taken.formed.coordination;
      filled = enough (fill_count b.form (length digits)) draws (length (map fill (range_with_len drawn draws))) lengths.1 (length-map-range_with_len fill drawn draws);
    }
  where
    enough : (n draws m : ℕ) → n ≡ draws → m ≡ draws → n ≤ m
    enough n draws m e f = omega (arith, e, f)

same_block : (xs ys : List ℕ) (x : Answer) → answer.Block (record { 0 = xs }) ≡ x → answer.Block (record { 0 = ys }) ≡ x → ys ≡ xs
same_block xs ys x e f = ap (λ (block : Block). block.0) (one_block (record { 0 = ys }) (record { 0 = xs }) (f ∙ sym e))
  where
    one_block : (c d : Block) → answer.Block c ≡ answer.Block d → c ≡ d
    one_block c d e = cc

module _ (laws : BlockLaws) (fill : ℕ → ℕ) (p : Shared) (b : BlockRequest) (taken : IsTakenBlock b) where
  made_alike : (hd gd : List ℕ) (x : Answer) → MadeOf fill p b hd x → MadeOf fill p b gd x → all_decimal hd ≡ true → all_decimal gd ≡ true → (is_padded b.form ≡ true → length gd ≡ length hd) → gd ≡ hd
  made_alike hd gd x h g hdec gdec same =
      let fill_h = map fill (range_with_len p.drawn h.draws) in
      let fill_g = map fill (range_with_len p.drawn g.draws) in
      let bytes = same_block (block_bytes tdea_bytes b hd h.first h.second fill_h) (block_bytes tdea_bytes b gd g.first g.second fill_g) x h.told g.told in
      let keyed : block_bytes tdea_bytes b gd h.first h.second fill_g ≡ block_bytes tdea_bytes b gd g.first g.second fill_g
      = ap (λ (key : List ℕ). block_bytes tdea_bytes b gd key h.second fill_g) (one_key h.first g.first (permit p.keys b.key purpose.PinRemote) h.key g.key)
      ∙ ap (λ (o : Option (List ℕ)). block_bytes tdea_bytes b gd g.first o fill_g) (same_second p.keys b.second h.second g.second h.other g.other) in
      bytes_fix laws b gd hd h.first h.second fill_h fill_g (λ some. taken.formed.mixed (sym (named_second p.keys b.second h.second h.other) ∙ some)) (taken_by fill b taken gd p.drawn g.draws gdec g.ready) (taken_by fill b taken hd p.drawn h.draws hdec h.ready) same (keyed ∙ bytes)

  made_by : (digits : List ℕ) (x : Answer) → CommandInWork p (command.Pin (pin.Block b)) → release_with (standard_setting fill) p digits (request_in_work p.requests) ≡ Some x → MadeOf fill p b digits x
  made_by digits x at e =
      let set = standard_setting fill in
      let c = command.Pin (pin.Block b) in
      let does : release_with set p digits (request_in_work p.requests) ≡ released set p digits (work_of set p (length digits) c)
      = ap (release_with set p digits) at.in_work ∙ ap (λ (d : Command). released set p digits (work_of set p (length digits) d)) at.asked in
      made_of fill p b digits x (work_of set p (length digits) c) (block_ready fill p (length digits) b) (sym does ∙ e)

module _ (laws : BlockLaws) where
  pub block_fixes : (fill : ℕ → ℕ) (b : BlockRequest) (h g : Flat) → IsTakenBlock b → DifferInDigits b.form h g → ReleaseOneBlock (standard_setting fill) h g b → g.held ≡ h.held
  block_fixes fill b h g taken differ one =
      let of_g : release_with (standard_setting fill) h.shared g.held (request_in_work h.shared.requests) ≡ Some one.answer
      = subst (λ (p : Shared). release_with (standard_setting fill) p g.held (request_in_work p.requests) ≡ Some one.answer) differ.shared one.of_second in
      made_alike laws fill h.shared b taken h.held g.held one.answer (made_by laws fill h.shared b taken h.held one.answer one.at one.of_first) (made_by laws fill h.shared b taken g.held one.answer one.at of_g) differ.of_first differ.of_second differ.lengths

-- in a run the request passed Submit, the digits are decimal, and twins hold as many
passed_admit : (o : Option AdmitFault) → not (is_some (option_map admit_refusal o)) ≡ true → o ≡ None
passed_admit None e = refl
passed_admit (Some why) e = cc

run_admits : (fill : ℕ → ℕ) (p : Shared) (b : BlockRequest) → CommandInWork p (command.Pin (pin.Block b)) → Sound (passes_submit (standard_setting fill).pin_rules) p → admit_block b ≡ None
run_admits fill p b at sound =
    let passes = passes_submit (standard_setting fill).pin_rules in
    let passed : passes at.request.command ≡ true = pass_first (passes at.request.command) (not (is_off p.device)) (pass-request_in_work (allowed passes p.device) p.requests at.request sound at.in_work) in
    passed_admit (admit_block b) (subst (λ (x : Command). passes x ≡ true) at.asked passed)

-- what the law says of two states
abbrev pub BlockFixes : Type 0
BlockFixes = (fill : ℕ → ℕ) (b : BlockRequest) (h g : Flat) → IsTakenBlock b → DifferInDigits b.form h g → ReleaseOneBlock (standard_setting fill) h g b → g.held ≡ h.held

pub run_fixes : BlockFixes → (fill : ℕ → ℕ) (b : BlockRequest) → IsFormedBlock b → (start : Flat) (xs ys : List Act) → IsStart start → Twins (standard_setting fill) start xs ys
    → ReleaseOneBlock (standard_setting fill) (run_from (standard_setting fill) start xs) (run_from (standard_setting fill) start ys) b → (run_from (standard_setting fill) start ys).held ≡ (run_from (standard_setting fill) start xs).held
run_fixes fixes fill b formed start xs ys begins twins one =
    let set = standard_setting fill in
    let h = run_from set start xs in
    let alike = twins_end_alike set start xs ys twins in
    fixes fill b h (run_from set start ys)
    (record { formed = formed; admitted = run_admits fill h.shared b one.at (sound_runs set start xs begins) })
    (record { shared = alike.shared; of_first = held_decimal set start xs begins; of_second = held_decimal set start ys begins; lengths = λ padded. alike.held }) one
