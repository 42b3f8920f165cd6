-- What each work that a command comes to has passed, and why each refusal is one.
use Rattle.check_values.specs.CheckValues.{check_value}
use Rattle.crypt_commands.specs.Crypts.{sealing_key}
use Rattle.crypt_commands.specs.Faults.{wrong_length, wrong_mac_key}
use Rattle.flat_machine.specs.AccessFacts.{CryptIsReady, ImportIsReady, Need, PinIsReady, need_of, needs, optional, permit_if}
use Rattle.flat_machine.specs.Commands.{erase, on_device, work_of}
use Rattle.flat_machine.specs.Crypts.{crypt_answer, crypt_use, crypt_work}
use Rattle.flat_machine.specs.Decisions.{denial, or_denied, or_refused, unless, unless_refused, with_key, with_key_if}
use Rattle.flat_machine.specs.Imports.{duplicated, import_refusal, import_work, into_slot}
use Rattle.flat_machine.specs.PinCommands.{pin_work, ready_refusal}
use Rattle.flat_machine.specs.Settings.{Setting}
use Rattle.flat_machine.specs.State.{Shared, device_refusal}
use Rattle.flat_machine.specs.declared.types.Work.{Work}
use Rattle.flat_machine.specs.declared.types.Work.TheVariants as work
use Rattle.key_attributes.specs.declared.KeyRow.{KeyRow}
use Rattle.key_attributes.specs.declared.Use.{Use}
use Rattle.key_attributes.specs.declared.Use.TheVariants as purpose
use Rattle.key_import.specs.Imports as source
use Rattle.key_import.specs.declared.ImportFault.{ImportFault}
use Rattle.key_import.specs.declared.ImportFault.TheVariants as fault
use Rattle.key_table.specs.Duplicates.{duplicate}
use Rattle.key_table.specs.KeyRows.{KeyRows, find_row, slot_for, slot_of}
use Rattle.key_table.specs.Permits.{permit}
use Rattle.key_table.specs.declared.Denied.{Denied}
use Rattle.pad_steps.specs.declared.answers.Refusal.{Refusal}
use Rattle.pad_steps.specs.declared.answers.Refusal.TheVariants as refusal
use Rattle.pad_steps.specs.declared.commands.Command.{Command}
use Rattle.pad_steps.specs.declared.commands.Command.TheVariants as command
use Rattle.pad_steps.specs.declared.commands.CryptRequest.{CryptRequest}
use Rattle.pad_steps.specs.declared.commands.ImportRequest.{ImportRequest}
use Rattle.pad_steps.specs.declared.commands.PinRequest.{PinRequest}
use Rattle.pin_blocks.specs.declared.work.PinFault.{PinFault}
use Rattle.pin_blocks.specs.declared.work.PinFault.TheVariants as unready
use Rattle.secure_entry.specs.PartBuffers.{part_value}
use Rattle.std.proofs.Common.{ap, arith, subst, sym}
use Rattle.std.specs.Prelude.{Bool, Contains, Err, List, None, Ok, Option, Result, Some, [], false, length, option_map, refl, true, ℕ, ◌==◌, ◌∷◌, ◌≡◌}

-- refusals of a command's own, which accuse no key
abbrev pub is_own : Refusal → Bool
is_own refusal.NoPin = true
is_own refusal.LengthError = true
is_own refusal.InvalidKeyLength = true
is_own refusal.AccessDenied = true
is_own (refusal.DuplicateKey name) = true
is_own refusal.TableFull = true
is_own refusal.UnsuppCommand = true
is_own other = false

-- what every such refusal passes is passed by each that passes the test
pub own_passes : (P : Refusal → Type 0) → P refusal.NoPin → P refusal.LengthError → P refusal.InvalidKeyLength → P refusal.AccessDenied → ((name : List ℕ) → P (refusal.DuplicateKey name)) → P refusal.TableFull → P refusal.UnsuppCommand
    → (r : Refusal) → is_own r ≡ true → P r
own_passes P no_pin length key_length denied duplicate full unsupported refusal.NoPin e = no_pin
own_passes P no_pin length key_length denied duplicate full unsupported refusal.LengthError e = length
own_passes P no_pin length key_length denied duplicate full unsupported refusal.InvalidKeyLength e = key_length
own_passes P no_pin length key_length denied duplicate full unsupported refusal.AccessDenied e = denied
own_passes P no_pin length key_length denied duplicate full unsupported (refusal.DuplicateKey name) e = duplicate name
own_passes P no_pin length key_length denied duplicate full unsupported refusal.TableFull e = full
own_passes P no_pin length key_length denied duplicate full unsupported refusal.UnsuppCommand e = unsupported
own_passes P no_pin length key_length denied duplicate full unsupported other e = absurd cc

-- what holds of each work that a command can come to, with what it has passed
pub record EachCase (set : Setting) (p : Shared) (n : ℕ) (c : Command) (Holds : Work → Type 0) : Type 0 where
  pub waits : needs set.pin_rules c ≡ [] → Holds work.Waits
  pub device : (r : Refusal) → device_refusal p.device ≡ Some r → Holds (work.Refuse r None)
  pub denied : (need : Need) (why : Denied) → Contains (needs set.pin_rules c) need → permit p.keys need.name need.wanted ≡ Err why → Holds (work.Refuse (denial why) (Some need.name))
  pub own : (r : Refusal) → is_own r ≡ true → Holds (work.Refuse r None)
  pub absent : (name : List ℕ) → c ≡ command.DeleteKey name → slot_of name p.keys ≡ None → Holds (work.Refuse refusal.KeyNotFound None)
  pub maintained : (on : Bool) → c ≡ command.MaintainPin on → Holds (work.Maintain on)
  pub released : (r : PinRequest) (first : List ℕ) (second : Option (List ℕ)) (draws : ℕ) → c ≡ command.Pin r → PinIsReady set p n r first second draws → Holds (work.Release r first second draws)
  pub answered : (r : CryptRequest) (key : List ℕ) (sealing : Option (List ℕ)) → c ≡ command.Crypt r → CryptIsReady p r key sealing → Holds (work.Answer (crypt_answer set.cipher r key sealing))
  pub kept : (r : ImportRequest) (kek : Option (List ℕ)) (row : KeyRow) (slot : ℕ) → c ≡ command.ImportKey r → ImportIsReady set p r kek row slot → Holds (work.Keep slot row (check_value set.cipher.tdea r.verify row.value) (source.is_part r.source))
  pub erased : (name : List ℕ) (slot : ℕ) → c ≡ command.DeleteKey name → slot_of name p.keys ≡ Some slot → Holds (work.Erase slot)
  pub erased_all : c ≡ command.Init → Holds work.EraseAll
  pub loaded : c ≡ command.Reset → Holds work.Load

module _ (Holds : Work → Type 0) where
  chain-unless : (b : Bool) (r : Refusal) (v : Work) → Holds (work.Refuse r None) → (b ≡ false → Holds v) → Holds (unless b r v)
  chain-unless true r v refused k = refused
  chain-unless false r v refused k = k refl

  chain-unless_refused : (o : Option Refusal) (v : Work) → ((r : Refusal) → o ≡ Some r → Holds (work.Refuse r None)) → (o ≡ None → Holds v) → Holds (unless_refused o v)
  chain-unless_refused None v refused k = k refl
  chain-unless_refused (Some r) v refused k = refused r refl

  chain-or_refused : {A F : Type 0} → (of : F → Refusal) (d : Result A F) (go_on : A → Work) → ((why : F) → Holds (work.Refuse (of why) None)) → ((x : A) → d ≡ Ok x → Holds (go_on x)) → Holds (or_refused of d go_on)
  chain-or_refused of (Ok x) go_on refused k = k x refl
  chain-or_refused of (Err why) go_on refused k = refused why

  chain-or_denied : (name : List ℕ) (d : Result (List ℕ) Denied) (go_on : List ℕ → Work) → ((why : Denied) → d ≡ Err why → Holds (work.Refuse (denial why) (Some name))) → ((v : List ℕ) → d ≡ Ok v → Holds (go_on v)) → Holds (or_denied name d go_on)
  chain-or_denied name (Ok v) go_on refused k = k v refl
  chain-or_denied name (Err why) go_on refused k = refused why refl

  chain-with_key : (rows : KeyRows) (name : List ℕ) (u : Use) (go_on : List ℕ → Work) → ((why : Denied) → permit rows name u ≡ Err why → Holds (work.Refuse (denial why) (Some name))) → ((v : List ℕ) → permit rows name u ≡ Ok v → Holds (go_on v)) → Holds (with_key rows name u go_on)
  chain-with_key rows name u go_on refused k = chain-or_denied name (permit rows name u) go_on refused k

  chain-with_key_if : (rows : KeyRows) (o : Option (List ℕ)) (u : Use) (go_on : Option (List ℕ) → Work) → ((name : List ℕ) (why : Denied) → o ≡ Some name → permit rows name u ≡ Err why → Holds (work.Refuse (denial why) (Some name)))
      → ((v : Option (List ℕ)) → permit_if rows o u ≡ Ok v → Holds (go_on v)) → Holds (with_key_if rows o u go_on)
  chain-with_key_if rows None u go_on refused k = k None refl
  chain-with_key_if rows (Some name) u go_on refused k = chain-with_key rows name u _ (λ why e. refused name why refl e) (λ v e. k (Some v) (ap optional e))

first_need : (need : Need) (rest : List Need) → Contains (need ∷ rest) need
first_need need rest = (0, omega arith, refl)

second_need : (need : Need) (u : Use) (o : Option (List ℕ)) (name : List ℕ) → o ≡ Some name → Contains (need ∷ need_of u o) (record { name = name; wanted = u })
second_need need u o name e =
    let other : Need = record { name = name; wanted = u } in
    let found : Contains (need ∷ need_of u (Some name)) other = (1, omega arith, refl) in
    subst (λ (x : Option (List ℕ)). Contains (need ∷ need_of u x) other) (sym e) found

only_need : (u : Use) (o : Option (List ℕ)) (name : List ℕ) → o ≡ Some name → Contains (need_of u o) (record { name = name; wanted = u })
only_need u o name e =
    let only : Need = record { name = name; wanted = u } in
    subst (λ (x : Option (List ℕ)). Contains (need_of u x) only) (sym e) (first_need only [])

own_ready : (why : PinFault) → is_own (ready_refusal why) ≡ true
own_ready unready.LengthError = refl
own_ready unready.InvalidKeyLength = refl

own_import : (why : ImportFault) → is_own (import_refusal why) ≡ true
own_import fault.AccessDenied = refl
own_import fault.InvalidKeyLength = refl

module _ (set : Setting) (p : Shared) (n : ℕ) (Holds : Work → Type 0) where
  on_ready : (c : Command) → EachCase set p n c Holds → (v : Work) → (device_refusal p.device ≡ None → Holds v) → Holds (on_device p v)
  on_ready c each v k = chain-unless_refused Holds (device_refusal p.device) v each.device k

  decides_pin : (r : PinRequest) → EachCase set p n (command.Pin r) Holds → device_refusal p.device ≡ None → Holds (pin_work set.pin_rules p.keys n r)
  decides_pin r each ready =
      chain-with_key Holds p.keys (set.pin_rules.wants r).first (set.pin_rules.wants r).wanted _ (λ why e. each.denied (record { name = (set.pin_rules.wants r).first; wanted = (set.pin_rules.wants r).wanted }) why (first_need _ _) e) (λ first is.
      chain-with_key_if Holds p.keys (set.pin_rules.wants r).second (set.pin_rules.wants r).wanted _ (λ name why o e. each.denied (record { name = name; wanted = (set.pin_rules.wants r).wanted }) why (second_need _ (set.pin_rules.wants r).wanted (set.pin_rules.wants r).second name o) e) (λ second also.
      chain-unless Holds (n == 0) refusal.NoPin _ (each.own refusal.NoPin refl) (λ some.
      chain-or_refused Holds ready_refusal (set.pin_rules.ready r n (length first) (option_map length second)) _ (λ why. each.own (ready_refusal why) (own_ready why)) (λ draws at.
      each.released r first second draws refl (record { device = ready; first_key = is; second_key = also; pin = some; ready = at })))))

  decides_crypt : (r : CryptRequest) → EachCase set p n (command.Crypt r) Holds → device_refusal p.device ≡ None → Holds (crypt_work set.cipher p.keys r)
  decides_crypt r each ready =
      chain-with_key Holds p.keys r.key (crypt_use r.algorithm) _ (λ why e. each.denied (record { name = r.key; wanted = crypt_use r.algorithm }) why (first_need _ _) e) (λ key is.
      chain-with_key_if Holds p.keys (sealing_key r.start) purpose.SvEncKey _ (λ name why o e. each.denied (record { name = name; wanted = purpose.SvEncKey }) why (second_need _ purpose.SvEncKey (sealing_key r.start) name o) e) (λ sealing also.
      chain-unless Holds (wrong_mac_key r.algorithm (length key)) refusal.InvalidKeyLength _ (each.own refusal.InvalidKeyLength refl) (λ right.
      chain-unless Holds (wrong_length r.direction (length r.body)) refusal.LengthError _ (each.own refusal.LengthError refl) (λ fits.
      each.answered r key sealing refl (record { device = ready; first_key = is; start_key = also; key_length = right; body_length = fits })))))

  decides_slot : (r : ImportRequest) → EachCase set p n (command.ImportKey r) Holds → (kek : Option (List ℕ)) (row : KeyRow) (o : Option ℕ) → slot_for row.name p.keys ≡ o → ((slot : ℕ) → slot_for row.name p.keys ≡ Some slot → ImportIsReady set p r kek row slot) → Holds (into_slot set.cipher r row o)
  decides_slot r each kek row None e k = each.own refusal.TableFull refl
  decides_slot r each kek row (Some slot) e k = each.kept r kek row slot refl (k slot e)

  decides_import : (r : ImportRequest) → EachCase set p n (command.ImportKey r) Holds → device_refusal p.device ≡ None → Holds (import_work set.cipher p.keys p.part r)
  decides_import r each ready =
      chain-with_key_if Holds p.keys (source.sealed_under r.source) purpose.KeyEncKey _ (λ name why o e. each.denied (record { name = name; wanted = purpose.KeyEncKey }) why (only_need purpose.KeyEncKey (source.sealed_under r.source) name o) e) (λ kek is.
      chain-or_refused Holds import_refusal (source.decide_import set.cipher.tdea_back r (find_row r.name p.keys) kek (part_value p.part)) _ (λ why. each.own (import_refusal why) (own_import why)) (λ row gives.
      chain-unless_refused Holds (duplicated (duplicate row p.keys)) _ (λ why e. each.own why (own_duplicate (duplicate row p.keys) why e)) (λ alone.
      decides_slot r each kek row (slot_for row.name p.keys) refl (λ slot room. record { device = ready; sealing_key = is; gives = gives; alone = none_duplicated (duplicate row p.keys) alone; room = room }))))
    where
      same_refusal : (a b : Refusal) → Some a ≡ Some b → a ≡ b
      same_refusal a b e = cc

      own_duplicate : (o : Option (List ℕ)) (why : Refusal) → duplicated o ≡ Some why → is_own why ≡ true
      own_duplicate None why e = cc
      own_duplicate (Some name) why e = ap is_own (sym (same_refusal (refusal.DuplicateKey name) why e))

      none_duplicated : (o : Option (List ℕ)) → duplicated o ≡ None → o ≡ None
      none_duplicated None e = refl
      none_duplicated (Some name) e = cc

  decides_erase : (name : List ℕ) (o : Option ℕ) → slot_of name p.keys ≡ o → EachCase set p n (command.DeleteKey name) Holds → Holds (erase o)
  decides_erase name None e each = each.absent name refl e
  decides_erase name (Some slot) e each = each.erased name slot refl e

  pub decides : (c : Command) → EachCase set p n c Holds → Holds (work_of set p n c)
  decides (command.GetPin rules) each = each.waits refl
  decides (command.GetData rules) each = each.waits refl
  decides (command.SecureKeyEntry rules) each = each.waits refl
  decides (command.MaintainPin on) each = on_ready (command.MaintainPin on) each _ (λ ready. each.maintained on refl)
  decides (command.Pin r) each = on_ready (command.Pin r) each _ (decides_pin r each)
  decides (command.Crypt r) each = on_ready (command.Crypt r) each _ (decides_crypt r each)
  decides (command.ImportKey r) each = on_ready (command.ImportKey r) each _ (decides_import r each)
  decides (command.DeleteKey name) each = on_ready (command.DeleteKey name) each _ (λ ready. decides_erase name (slot_of name p.keys) refl each)
  decides command.Init each = on_ready command.Init each _ (λ ready. each.erased_all refl)
  decides command.Reset each = each.loaded refl
  decides command.RsaImport each = each.own refusal.UnsuppCommand refl
