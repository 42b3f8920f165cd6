-- Pending requests whose commands pass a test, as requests go on and end.
use Rattle.request_queue.specs.Requests.{begun, ended_where, finished, may_begin, refused_at_begin}
use Rattle.flat_machine.specs.Sound.{allowed, pending_pass}
use Rattle.flat_machine.specs.State.{is_off}
use Rattle.request_queue.specs.declared.requests.Request.{Request}
use Rattle.flat_machine.specs.declared.types.Device.{Device}
use Rattle.request_queue.specs.declared.requests.RequestRow.{RequestRow}
use Rattle.request_queue.specs.declared.requests.RequestRow.TheVariants.{Gone, InWork, Waiting}
use Rattle.pad_steps.specs.declared.answers.Reply.{Reply}
use Rattle.pad_steps.specs.declared.commands.Command.{Command}
use Rattle.pad_words.specs.declared.numbers.Session.{Session}
use Rattle.std.specs.Prelude.{Bool, List, Option, [], false, if◌then◌else◌, not, refl, true, ◌&&◌, ◌++◌, ◌∷◌, ◌≡◌}

pub and_left : (a b : Bool) → (a && b) ≡ true → a ≡ true
and_left true b h = refl
and_left false b h = cc

pub and_right : (a b : Bool) → (a && b) ≡ true → b ≡ true
and_right true b h = h
and_right false b h = cc

pub and_both : (a b : Bool) → a ≡ true → b ≡ true → (a && b) ≡ true
and_both true b ha hb = hb
and_both false b ha hb = cc

pub pass-weaken : (t u : Command → Bool) (rows : List (RequestRow Command Reply)) → ((c : Command) → t c ≡ true → u c ≡ true) → pending_pass t rows ≡ true → pending_pass u rows ≡ true
pass-weaken t u [] f h = refl
pass-weaken t u (Waiting a ∷ rows) f h = and_both (u a.command) (pending_pass u rows) (f a.command (and_left (t a.command) (pending_pass t rows) h)) (pass-weaken t u rows f (and_right (t a.command) (pending_pass t rows) h))
pass-weaken t u (InWork a ∷ rows) f h = and_both (u a.command) (pending_pass u rows) (f a.command (and_left (t a.command) (pending_pass t rows) h)) (pass-weaken t u rows f (and_right (t a.command) (pending_pass t rows) h))
pass-weaken t u (Gone id s r ∷ rows) f h = pass-weaken t u rows f h

pub pass_waiting-if : (t : Command → Bool) (b : Bool) (a : Request Command) (r : Reply) (rows : List (RequestRow Command Reply)) → t a.command ≡ true → pending_pass t rows ≡ true → pending_pass t ((if b then Gone a.id a.session r else Waiting a) ∷ rows) ≡ true
pass_waiting-if t true a r rows ha h = h
pass_waiting-if t false a r rows ha h = and_both (t a.command) (pending_pass t rows) ha h

pub pass_work-if : (t : Command → Bool) (b : Bool) (a : Request Command) (r : Reply) (rows : List (RequestRow Command Reply)) → t a.command ≡ true → pending_pass t rows ≡ true → pending_pass t ((if b then Gone a.id a.session r else InWork a) ∷ rows) ≡ true
pass_work-if t true a r rows ha h = h
pass_work-if t false a r rows ha h = and_both (t a.command) (pending_pass t rows) ha h

pub pass-ended_where : (t : Command → Bool) (test : Request Command → Bool) (r : Reply) (rows : List (RequestRow Command Reply)) → pending_pass t rows ≡ true → pending_pass t (ended_where test r rows) ≡ true
pass-ended_where t test r [] h = refl
pass-ended_where t test r (Waiting a ∷ rows) h = pass_waiting-if t (test a) a r (ended_where test r rows) (and_left (t a.command) (pending_pass t rows) h) (pass-ended_where t test r rows (and_right (t a.command) (pending_pass t rows) h))
pass-ended_where t test r (InWork a ∷ rows) h = pass_work-if t (test a) a r (ended_where test r rows) (and_left (t a.command) (pending_pass t rows) h) (pass-ended_where t test r rows (and_right (t a.command) (pending_pass t rows) h))
pass-ended_where t test r (Gone id s q ∷ rows) h = pass-ended_where t test r rows h

-- where all end, none is left
pub pass-all_ended : (t : Command → Bool) (r : Reply) (rows : List (RequestRow Command Reply)) → pending_pass t (ended_where (λ a. true) r rows) ≡ true
pass-all_ended t r [] = refl
pass-all_ended t r (Waiting a ∷ rows) = pass-all_ended t r rows
pass-all_ended t r (InWork a ∷ rows) = pass-all_ended t r rows
pass-all_ended t r (Gone id s q ∷ rows) = pass-all_ended t r rows

pub pass-finished : (t : Command → Bool) (r : Reply) (rows : List (RequestRow Command Reply)) → pending_pass t rows ≡ true → pending_pass t (finished r rows) ≡ true
pass-finished t r [] h = refl
pass-finished t r (Waiting a ∷ rows) h = and_both (t a.command) _ (and_left (t a.command) (pending_pass t rows) h) (pass-finished t r rows (and_right (t a.command) (pending_pass t rows) h))
pass-finished t r (InWork a ∷ rows) h = and_right (t a.command) (pending_pass t rows) h
pass-finished t r (Gone id s q ∷ rows) h = pass-finished t r rows h

pub pass-push : (t : Command → Bool) (rows : List (RequestRow Command Reply)) (a : Request Command) → pending_pass t rows ≡ true → t a.command ≡ true → pending_pass t (rows ++ Waiting a ∷ []) ≡ true
pass-push t [] a h ha = and_both (t a.command) true ha refl
pass-push t (Waiting b ∷ rows) a h ha = and_both (t b.command) _ (and_left (t b.command) (pending_pass t rows) h) (pass-push t rows a (and_right (t b.command) (pending_pass t rows) h) ha)
pass-push t (InWork b ∷ rows) a h ha = and_both (t b.command) _ (and_left (t b.command) (pending_pass t rows) h) (pass-push t rows a (and_right (t b.command) (pending_pass t rows) h) ha)
pass-push t (Gone id s q ∷ rows) a h ha = pass-push t rows a h ha

pub pass_begun-if : (t : Command → Bool) (b : Bool) (a : Request Command) (row : RequestRow Command Reply) (rows begun_rows : List (RequestRow Command Reply)) → t a.command ≡ true → pending_pass t (row ∷ rows) ≡ true → pending_pass t begun_rows ≡ true
    → pending_pass t (if b then row ∷ rows else Waiting a ∷ begun_rows) ≡ true
pass_begun-if t true a row rows others ha h k = h
pass_begun-if t false a row rows others ha h k = and_both (t a.command) (pending_pass t others) ha k

pub pass-begun : (t : Command → Bool) (holder : Option Session) (rows : List (RequestRow Command Reply)) → pending_pass t rows ≡ true → pending_pass t (begun holder rows) ≡ true
pass-begun t holder [] h = refl
pass-begun t holder (Waiting a ∷ rows) h = pass_begun-if t (may_begin holder a) a (InWork a) rows (begun holder rows) (and_left (t a.command) (pending_pass t rows) h) h (pass-begun t holder rows (and_right (t a.command) (pending_pass t rows) h))
pass-begun t holder (InWork a ∷ rows) h = and_both (t a.command) _ (and_left (t a.command) (pending_pass t rows) h) (pass-begun t holder rows (and_right (t a.command) (pending_pass t rows) h))
pass-begun t holder (Gone id s q ∷ rows) h = pass-begun t holder rows h

pub pass-refused_at_begin : (t : Command → Bool) (r : Reply) (holder : Option Session) (rows : List (RequestRow Command Reply)) → pending_pass t rows ≡ true → pending_pass t (refused_at_begin r holder rows) ≡ true
pass-refused_at_begin t r holder [] h = refl
pass-refused_at_begin t r holder (Waiting a ∷ rows) h = pass_begun-if t (may_begin holder a) a (Gone a.id a.session r) rows (refused_at_begin r holder rows) (and_left (t a.command) (pending_pass t rows) h) (and_right (t a.command) (pending_pass t rows) h) (pass-refused_at_begin t r holder rows (and_right (t a.command) (pending_pass t rows) h))
pass-refused_at_begin t r holder (InWork a ∷ rows) h = and_both (t a.command) _ (and_left (t a.command) (pending_pass t rows) h) (pass-refused_at_begin t r holder rows (and_right (t a.command) (pending_pass t rows) h))
pass-refused_at_begin t r holder (Gone id s q ∷ rows) h = pass-refused_at_begin t r holder rows h

-- a device that is on allows what any device allowed
pub allowed-on : (ok : Command → Bool) (d e : Device) (c : Command) → is_off e ≡ false → allowed ok d c ≡ true → allowed ok e c ≡ true
allowed-on ok d e c on h = and_both (ok c) (not (is_off e)) (and_left (ok c) (not (is_off d)) h) (rw on refl)
