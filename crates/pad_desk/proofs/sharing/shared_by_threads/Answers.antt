use denote.Param.Send.{sendable}
use Rattle.pad_desk.proofs.SendLemmas.{desk_sync}
use Rattle.pad_desk.proofs.sharing.shared_by_threads.Goals as goal

pub needs_sync-requires-sync-T : goal.needs_sync-requires-sync-T
needs_sync-requires-sync-T g c κs within = search (desk_sync, sendable) depth 12
