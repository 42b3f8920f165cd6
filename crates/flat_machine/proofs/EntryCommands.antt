-- The command of an entry in work: a key part is one of SECUREKEY_ENTRY, a PIN one of GET_PIN, and it passes what pending commands pass.
use Rattle.entry_core.specs.Entries.{Entry, entry_by, entry_of, greatest_length, is_key_part, is_pin}
use Rattle.request_queue.specs.Requests.{request_in_work}
use Rattle.flat_machine.specs.Sound.{pending_pass}
use Rattle.request_queue.specs.declared.requests.Request.{Request}
use Rattle.request_queue.specs.declared.requests.RequestRow.{RequestRow}
use Rattle.request_queue.specs.declared.requests.RequestRow.TheVariants.{Gone, InWork, Waiting}
use Rattle.pad_steps.specs.declared.answers.Reply.{Reply}
use Rattle.pad_steps.specs.declared.commands.Command.{Command}
use Rattle.pad_steps.specs.declared.commands.EntryKind.{EntryKind}
use Rattle.pad_steps.specs.declared.commands.EntryRules.{EntryRules}
use Rattle.pad_steps.specs.declared.commands.PartRules.{PartRules}
use Rattle.std.proofs.Common.{ap, sym, ◌∙◌}
use Rattle.std.specs.Prelude.{Bool, List, None, Some, [], false, refl, true, ◌&&◌, ◌∷◌, ◌≡◌}
use Rattle.pad_steps.specs.declared.commands.Command.TheVariants as command
use Rattle.pad_steps.specs.declared.commands.EntryKind.TheVariants as entry_kind

-- a key part in work has a count that passed Submit

some_entry : (e f : Entry) → Some e ≡ Some f → e ≡ f
some_entry e f s = cc

false_is_not_true : false ≡ true → ⊥
false_is_not_true e = cc

none_is_not_some : (e : Entry) → None ≡ Some e → ⊥
none_is_not_some e s = cc

-- an entry of a key part is one of SECUREKEY_ENTRY, and of a PIN one of GET_PIN
pub record PartOf (c : Command) (e : Entry) : Type 0 where
  pub rules : PartRules
  pub command : c ≡ command.SecureKeyEntry rules
  pub least : e.least ≡ rules.count
  pub greatest : e.greatest ≡ rules.count

not_part : (k : EntryKind) (rules : EntryRules) (c : Command) (e : Entry) → is_key_part k ≡ false → Some (entry_by k rules) ≡ Some e → is_key_part e.kind ≡ true → PartOf c e
not_part k rules c e no_part s part = absurd (false_is_not_true (sym no_part ∙ ap (λ (x : Entry). is_key_part x.kind) (some_entry (entry_by k rules) e s) ∙ part))

pub part_of : (c : Command) (e : Entry) → entry_of c ≡ Some e → is_key_part e.kind ≡ true → PartOf c e
part_of (command.GetPin rules) e s part = not_part entry_kind.Pin rules _ e refl s part
part_of (command.GetData rules) e s part = not_part entry_kind.Figures rules _ e refl s part
part_of (command.SecureKeyEntry rules) e s part = record { rules = rules; command = refl; least = ap (λ (x : Entry). x.least) (sym (some_entry _ e s)); greatest = ap (λ (x : Entry). x.greatest) (sym (some_entry _ e s)) }
part_of (command.MaintainPin on) e s part = absurd (none_is_not_some e s)
part_of (command.Pin r) e s part = absurd (none_is_not_some e s)
part_of (command.Crypt r) e s part = absurd (none_is_not_some e s)
part_of (command.ImportKey r) e s part = absurd (none_is_not_some e s)
part_of (command.DeleteKey name) e s part = absurd (none_is_not_some e s)
part_of command.Init e s part = absurd (none_is_not_some e s)
part_of command.Reset e s part = absurd (none_is_not_some e s)
part_of command.RsaImport e s part = absurd (none_is_not_some e s)

pub record PinOf (c : Command) (e : Entry) : Type 0 where
  pub rules : EntryRules
  pub command : c ≡ command.GetPin rules
  pub greatest : e.greatest ≡ greatest_length rules.max

not_pin : (x : Entry) (c : Command) (e : Entry) → is_pin x.kind ≡ false → Some x ≡ Some e → is_pin e.kind ≡ true → PinOf c e
not_pin x c e no_pin s is = absurd (false_is_not_true (sym no_pin ∙ ap (λ (y : Entry). is_pin y.kind) (some_entry x e s) ∙ is))

pub pin_of : (c : Command) (e : Entry) → entry_of c ≡ Some e → is_pin e.kind ≡ true → PinOf c e
pin_of (command.GetPin rules) e s is = record { rules = rules; command = refl; greatest = ap (λ (x : Entry). x.greatest) (sym (some_entry _ e s)) }
pin_of (command.GetData rules) e s is = not_pin (entry_by entry_kind.Figures rules) _ e refl s is
pin_of (command.SecureKeyEntry rules) e s is = not_pin (record { kind = entry_kind.Part; least = rules.count; greatest = rules.count; auto_end = rules.auto_end; active = rules.active; terminate = rules.terminate; check = rules.verify }) _ e refl s is
pin_of (command.MaintainPin on) e s is = absurd (none_is_not_some e s)
pin_of (command.Pin r) e s is = absurd (none_is_not_some e s)
pin_of (command.Crypt r) e s is = absurd (none_is_not_some e s)
pin_of (command.ImportKey r) e s is = absurd (none_is_not_some e s)
pin_of (command.DeleteKey name) e s is = absurd (none_is_not_some e s)
pin_of command.Init e s is = absurd (none_is_not_some e s)
pin_of command.Reset e s is = absurd (none_is_not_some e s)
pin_of command.RsaImport e s is = absurd (none_is_not_some e s)

same_asked : (b a : Request Command) → Some b ≡ Some a → b ≡ a
same_asked b a e = cc

pub pass_first : (x y : Bool) → (x && y) ≡ true → x ≡ true
pass_first true y h = refl
pass_first false y h = cc

pass_second : (x y : Bool) → (x && y) ≡ true → y ≡ true
pass_second true y h = h
pass_second false y h = cc

pub pass-request_in_work : (t : Command → Bool) (rows : List (RequestRow Command Reply)) (a : Request Command) → pending_pass t rows ≡ true → request_in_work rows ≡ Some a → t a.command ≡ true
pass-request_in_work t [] a h w = cc
pass-request_in_work t (Waiting b ∷ rows) a h w = pass-request_in_work t rows a (pass_second (t b.command) (pending_pass t rows) h) w
pass-request_in_work t (InWork b ∷ rows) a h w = ap (λ (x : Request Command). t x.command) (sym (same_asked b a w)) ∙ pass_first (t b.command) (pending_pass t rows) h
pass-request_in_work t (Gone id s q ∷ rows) a h w = pass-request_in_work t rows a h w
