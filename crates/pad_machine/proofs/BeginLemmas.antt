-- An entry that is refused as it is taken, or starts.
use Rattle.device_lock.specs.LockLine.{holder_of}
use Rattle.entry_core.specs.Entries.{Entry, entry_of, entry_refusal, is_key_part, is_pin}
use Rattle.flat_machine.specs.EntrySteps.{begin_as, begin_entry, begin_with, first_of}
use Rattle.flat_machine.specs.Sessions.{execute_event}
use Rattle.flat_machine.specs.State.{Said, Shared, device_refusal, dropping_presses, owner_of, says, unchanged}
use Rattle.flat_machine.specs.declared.types.Owner.{Owner}
use Rattle.pad_steps.specs.declared.answers.Event.TheVariants as events
use Rattle.pad_steps.specs.declared.answers.Out.TheVariants as out
use Rattle.pad_steps.specs.declared.answers.Refusal.{Refusal}
use Rattle.pad_steps.specs.declared.answers.Reply.TheVariants as replied
use Rattle.pad_steps.specs.declared.commands.Command.{Command}
use Rattle.pad_steps.specs.declared.commands.EntryKind.{EntryKind}
use Rattle.request_queue.specs.Requests.{begun, refused_at_begin, request_command}
use Rattle.request_queue.specs.declared.requests.Request.{Request}
use Rattle.std.proofs.Common.{ap, ◌∙◌}
use Rattle.std.proofs.lemmas.Option.{same_Some}
use Rattle.std.specs.Option.{option_map}
use Rattle.std.specs.Prelude.{Bool, None, Option, Some, [], false, if◌then◌else◌, is_some, refl, true, ◌||◌, ◌≡◌}

-- the entry of this owner ends with this refusal as it is taken
abbrev pub refuses_entry : Shared → Owner → Refusal → Said
refuses_entry shared owner refusal = dropping_presses true (says
    (record shared { requests = refused_at_begin (replied.No refusal) (holder_of shared.line) shared.requests })
    (out.Ended owner.session owner.id (replied.No refusal)))

-- the entry of this kind starts, for this owner
abbrev pub starts_entry : Shared → Owner → EntryKind → Said
starts_entry shared owner kind = record {
  shared = record shared { requests = begun (holder_of shared.line) shared.requests; part = if is_key_part kind then [] else shared.part };
  outs = execute_event shared.sessions owner.session events.EnterData;
  drops_pin = is_pin kind;
  drops_presses = true;
}

-- an entry is refused, or starts
abbrev begins : Shared → Owner → Entry → Option Refusal → Said
begins shared owner entry None = starts_entry shared owner entry.kind
begins shared owner entry (Some refusal) = refuses_entry shared owner refusal

begins_for : (shared : Shared) (request : Request Command) (entry : Entry) (why : Option Refusal) → begins shared (owner_of request) entry why ≡ begin_entry shared request entry why
begins_for shared request entry None = refl
begins_for shared request entry (Some refusal) = refl

begins_with : (shared : Shared) (owner : Owner) (command : Command) (entry : Entry) (why : Option Refusal) (off : Bool) (working found : Option (Request Command))
    → Some owner ≡ (if off || is_some working then None else option_map owner_of found)
    → Some command ≡ option_map request_command found
    → Some entry ≡ entry_of command
    → why ≡ first_of (device_refusal shared.device) (entry_refusal entry)
    → begins shared owner entry why ≡ (if off then unchanged shared else begin_with shared working found)
begins_with shared owner command entry why true working found of is asks decided = cc
begins_with shared owner command entry why false (Some request) found of is asks decided = cc
begins_with shared owner command entry why false None None of is asks decided = cc
begins_with shared owner command entry why false None (Some request) of is asks decided =
    let same_owner : owner ≡ owner_of request = same_Some owner (owner_of request) of in
    let same_command : command ≡ request.command = same_Some command request.command is in
    ap (λ (o : Owner). begins shared o entry why) same_owner
    ∙ begins_for shared request entry why
    ∙ ap (λ (refusal : Option Refusal). begin_entry shared request entry refusal) decided
    ∙ ap (λ (asked : Option Entry). begin_as shared request asked) (asks ∙ ap entry_of same_command)

pub begins_refused : (shared : Shared) (owner : Owner) (command : Command) (entry : Entry) (refusal : Refusal) (off : Bool) (working found : Option (Request Command))
    → Some owner ≡ (if off || is_some working then None else option_map owner_of found)
    → Some command ≡ option_map request_command found
    → Some entry ≡ entry_of command
    → Some refusal ≡ first_of (device_refusal shared.device) (entry_refusal entry)
    → refuses_entry shared owner refusal ≡ (if off then unchanged shared else begin_with shared working found)
begins_refused shared owner command entry refusal off working found of is asks refused = begins_with shared owner command entry (Some refusal) off working found of is asks refused

pub begins_started : (shared : Shared) (owner : Owner) (command : Command) (entry : Entry) (kind : EntryKind) (off : Bool) (working found : Option (Request Command))
    → Some owner ≡ (if off || is_some working then None else option_map owner_of found)
    → Some command ≡ option_map request_command found
    → Some entry ≡ entry_of command
    → None ≡ first_of (device_refusal shared.device) (entry_refusal entry)
    → kind ≡ entry.kind
    → starts_entry shared owner kind ≡ (if off then unchanged shared else begin_with shared working found)
begins_started shared owner command entry kind off working found of is asks taken as_kind =
    ap (λ (k : EntryKind). starts_entry shared owner k) as_kind ∙ begins_with shared owner command entry None off working found of is asks taken
