-- A history has no more entries than the lines allow.
use Rattle.std.proofs.Common.{ap, append_assoc, arith, cond, length, length-append, map, refl, subst, suc, sym, inl, inr, true, false, Bool, List, [], ◌++◌, ◌+◌, ◌*◌, ◌∙◌, ◌∷◌, ◌≡◌, ◌≤◌, ◌⊎◌, ℕ}
use Rattle.std.specs.Prelude.{None, Option, Some, bytes_eq}
use native.Mathlib.Nat.{add-mul, mul_assoc}
use Rattle.pad_desk.specs.Histories.{DeskEntry}
use Rattle.pad_live_core.proofs.CountLemmas.{count_other, count_own, worker_entries}
use Rattle.pad_live_core.proofs.DueLemmas.{WorkLaws, drawn_in, ended_few}
use Rattle.pad_live_core.specs.Bounds.{all_lines, all_submits, is_submit, is_submit_line, most_entries, submits}
use Rattle.pad_live_core.specs.LaneEvents.{DeskLog, LaneEvent, ended_in, made, opened, opens_of, passed, placed_from, polled, polls_of, steps_of}
use Rattle.pad_live_core.specs.LaneLines.{Breaks, Follows, FollowsLine, IsPoll, id_at, ids_of, reply_asked}
use Rattle.pad_live_core.specs.LiveHistories.{FollowsTo, Lane, LanesRun, LiveHistory, lists_of}
use Rattle.pad_live_core.specs.Shuffles.{Shuffle, Takes}
use Rattle.pad_live_core.specs.Workers.{IsWorked}
use Rattle.pad_live_core.specs.declared.stop.Stop.{Stop}
use Rattle.pad_steps.specs.declared.steps.Step.TheVariants as steps
use Rattle.pad_steps.specs.declared.steps.Step.{Step}
use Rattle.pad_words.specs.declared.numbers.Session.{Session}
use Rattle.pin_blocks.specs.PinRules.{PinRules}
use Rattle.script_lang.specs.declared.lane_kinds.LaneStep.TheVariants as lane
use Rattle.script_lang.specs.declared.lane_kinds.LaneStep.{LaneStep}
use Rattle.turnstile.proofs.ListLemmas.{by_same}
use Rattle.turnstile.specs.Entries.{entry}
use Rattle.turnstile.specs.Numbers.{Each}
use Rattle.turnstile.specs.Rules.{entries_of, entry_in}

module _ (f : DeskEntry → ℕ) where
  abbrev pub weigh : List DeskEntry → ℕ
  weigh [] = 0
  weigh (x ∷ xs) = f x + weigh xs

  abbrev pub weigh_all : List (List DeskEntry) → ℕ
  weigh_all [] = 0
  weigh_all (l ∷ ls) = weigh l + weigh_all ls

  takes_weigh : (x : DeskEntry) (ls after : List (List DeskEntry)) → Takes x ls after → weigh_all ls ≡ f x + weigh_all after
  takes_weigh x [] after t = absurd t
  takes_weigh x (l ∷ ls) after (inl t) = let a = ap weigh t.front in let b = ap weigh_all t.left in omega (arith, a, b)
  takes_weigh x (l ∷ ls) after (inr t) = let a = takes_weigh x ls t.0 t.1 in let b = ap weigh_all t.2 in omega (arith, a, b)

  none_weigh : (ls : List (List DeskEntry)) → Each (λ (l : List DeskEntry). l ≡ []) ls → weigh_all ls ≡ 0
  none_weigh [] e = refl
  none_weigh (l ∷ ls) e = let a = ap weigh e.0 in let b = none_weigh ls e.1 in omega (arith, a, b)

  pub shuffle_weigh : (xs : List DeskEntry) (ls : List (List DeskEntry)) → Shuffle xs ls → weigh xs ≡ weigh_all ls
  shuffle_weigh [] ls s = sym (none_weigh ls s)
  shuffle_weigh (x ∷ xs) ls s = let a = takes_weigh x ls s.0 s.1 in let b = shuffle_weigh xs s.0 s.2 in omega (arith, a, b)

abbrev one : DeskEntry → ℕ
one e = 1

abbrev submit : DeskEntry → ℕ
submit e = is_submit e.op

weigh_one : (xs : List DeskEntry) → weigh one xs ≡ length xs
weigh_one [] = refl
weigh_one (x ∷ xs) = let a = weigh_one xs in omega (arith, a)

-- what a lane's events count
record Counts (n r : ℕ) (events : List LaneEvent) : Type 0 where
  steps : length (steps_of events) ≤ n
  opens : opens_of events ≤ n
  drawn : weigh submit (steps_of events) ≤ r
  polls : weigh submit (polls_of events) ≡ 0

counts_cons : (n r : ℕ) (place : ℕ) (e : DeskEntry) (events : List LaneEvent) → Counts n r events → Counts (1 + n) (submit e + r) (made place e ∷ events)
counts_cons n r place e events c = let a = c.steps in let b = c.opens in let d = c.drawn in record { steps = omega (arith, a); opens = omega (arith, b); drawn = omega (arith, d); polls = c.polls }

counts_append : (n r m q : ℕ) (a b : List LaneEvent) → Counts n r a → Counts m q b → Counts (n + m) (r + q) (a ++ b)
counts_append n r m q a b c d = let s = steps_append a b in let o = opens_append a b in let w = drawn_append a b in let p = polls_append a b in
    let cs = c.steps in let co = c.opens in let cd = c.drawn in let cp = c.polls in let ds = d.steps in let do' = d.opens in let dd = d.drawn in let dp = d.polls in
    record { steps = omega (arith, s, cs, ds); opens = omega (arith, o, co, do'); drawn = omega (arith, w, cd, dd); polls = omega (arith, p, cp, dp) }
  where
    steps_append : (a b : List LaneEvent) → length (steps_of (a ++ b)) ≡ length (steps_of a) + length (steps_of b)
    steps_append [] b = omega arith
    steps_append (made place e ∷ a) b = let h = steps_append a b in omega (arith, h)
    steps_append (polled place e ∷ a) b = steps_append a b
    steps_append (passed k ∷ a) b = steps_append a b
    steps_append (opened ∷ a) b = steps_append a b

    opens_append : (a b : List LaneEvent) → opens_of (a ++ b) ≡ opens_of a + opens_of b
    opens_append [] b = omega arith
    opens_append (made place e ∷ a) b = opens_append a b
    opens_append (polled place e ∷ a) b = opens_append a b
    opens_append (passed k ∷ a) b = opens_append a b
    opens_append (opened ∷ a) b = let h = opens_append a b in omega (arith, h)

    drawn_append : (a b : List LaneEvent) → weigh submit (steps_of (a ++ b)) ≡ weigh submit (steps_of a) + weigh submit (steps_of b)
    drawn_append [] b = omega arith
    drawn_append (made place e ∷ a) b = let h = drawn_append a b in omega (arith, h)
    drawn_append (polled place e ∷ a) b = drawn_append a b
    drawn_append (passed k ∷ a) b = drawn_append a b
    drawn_append (opened ∷ a) b = drawn_append a b

    polls_append : (a b : List LaneEvent) → weigh submit (polls_of (a ++ b)) ≡ weigh submit (polls_of a) + weigh submit (polls_of b)
    polls_append [] b = omega arith
    polls_append (made place e ∷ a) b = polls_append a b
    polls_append (polled place e ∷ a) b = let h = polls_append a b in omega (arith, h)
    polls_append (passed k ∷ a) b = polls_append a b
    polls_append (opened ∷ a) b = polls_append a b

counts_polls : (session : Session) (id : ℕ) (polls : List LaneEvent) → Each (IsPoll session id) polls → Counts 0 0 polls
counts_polls session id [] is = record { steps = omega arith; opens = omega arith; drawn = omega arith; polls = refl }
counts_polls session id (made place e ∷ es) is = absurd is.0
counts_polls session id (polled place e ∷ es) is = let c = counts_polls session id es is.1 in let a = ap is_submit is.0.0 in let p = c.polls in record { steps = c.steps; opens = c.opens; drawn = c.drawn; polls = omega (arith, a, p) }
counts_polls session id (passed k ∷ es) is = absurd is.0
counts_polls session id (opened ∷ es) is = absurd is.0

counts_none : Counts 0 0 []
counts_none = record { steps = omega arith; opens = omega arith; drawn = omega arith; polls = refl }

more_counts : (n r m q : ℕ) (events : List LaneEvent) → n ≤ m → r ≤ q → Counts n r events → Counts m q events
more_counts n r m q events le lr c = let a = c.steps in let b = c.opens in let d = c.drawn in record { steps = omega (arith, a, le); opens = omega (arith, b, le); drawn = omega (arith, d, lr); polls = c.polls }

-- an await of a reply begins
opened_counts : (r : ℕ) (events : List LaneEvent) → Counts 0 r events → Counts 1 r (opened ∷ events)
opened_counts r events c = let a = c.steps in let b = c.opens in record { steps = omega (arith, a); opens = omega (arith, b); drawn = c.drawn; polls = c.polls }

line_counts : (ids : List ℕ) (line : LaneStep) (now : List LaneEvent) → FollowsLine ids line now → Counts 1 (is_submit_line line) now
line_counts ids (lane.Plain step) now f = subst (Counts 1 (is_submit step)) (sym f.2) record { steps = omega arith; opens = omega arith; drawn = omega arith; polls = refl }
line_counts ids (lane.Cancel session id) now f = subst (Counts 1 0) (sym f.2) record { steps = omega arith; opens = omega arith; drawn = omega arith; polls = refl }
line_counts ids (lane.AskReply session k) now f = subst (Counts 1 0) (sym f.2) record { steps = omega arith; opens = omega arith; drawn = omega arith; polls = refl }
line_counts ids lane.AwaitEntry now f = subst (Counts 1 0) (sym f.1) record { steps = omega arith; opens = omega arith; drawn = omega arith; polls = refl }
line_counts ids (lane.AwaitReply session k) now f = let tail : List LaneEvent = made f.place (entry (reply_asked session (id_at ids k)) f.outcome) ∷ [] in
    let c = counts_append 0 0 1 0 f.polls tail (counts_polls session (id_at ids k) f.polls f.pending) record { steps = omega arith; opens = omega arith; drawn = omega arith; polls = refl } in
    let o = opens_none session (id_at ids k) f.polls tail f.pending in let a = c.steps in let d = c.drawn in
    subst (Counts 1 0) (sym f.is) record { steps = omega (arith, a); opens = omega (arith, o); drawn = omega (arith, d); polls = c.polls }
  where
    opens_none : (session : Session) (id : ℕ) (polls tail : List LaneEvent) → Each (IsPoll session id) polls → opens_of (polls ++ tail) ≡ opens_of tail
    opens_none session id [] tail is = refl
    opens_none session id (made place e ∷ es) tail is = absurd is.0
    opens_none session id (polled place e ∷ es) tail is = opens_none session id es tail is.1
    opens_none session id (passed k ∷ es) tail is = absurd is.0
    opens_none session id (opened ∷ es) tail is = absurd is.0

follows_counts : (ids : List ℕ) (lines : List LaneStep) (events : List LaneEvent) → Follows ids lines events → Counts (length lines) (submits lines) events
follows_counts ids [] events f = subst (Counts 0 0) (sym f) counts_none
follows_counts ids (line ∷ lines) events f = subst (Counts (suc (length lines)) (is_submit_line line + submits lines)) (sym f.2)
    (more_counts (1 + length lines) (is_submit_line line + submits lines) (suc (length lines)) (is_submit_line line + submits lines) (f.0 ++ f.1) (omega arith) (omega arith)
    (counts_append 1 (is_submit_line line) (length lines) (submits lines) f.0 f.1 (line_counts ids line f.0 f.3) (follows_counts (ids ++ ids_of f.0) lines f.1 f.4)))

breaks_counts : (ids : List ℕ) (line : LaneStep) (now : List LaneEvent) → Breaks ids line now → Counts 1 0 now
breaks_counts ids line now (inl none) = subst (Counts 1 0) (sym none) record { steps = omega arith; opens = omega arith; drawn = omega arith; polls = refl }
breaks_counts ids line now (inr b) = subst (Counts 1 0) (sym b.is) (opened_counts 0 b.polls (counts_polls b.session (id_at ids b.k) b.polls b.pending))

submits_append : (a b : List LaneStep) → submits (a ++ b) ≡ submits a + submits b
submits_append [] b = omega arith
submits_append (l ∷ a) b = let h = submits_append a b in omega (arith, h)

lane_counts : (lines : List LaneStep) (stop : Option Stop) (events : List LaneEvent) → FollowsTo lines stop events → Counts (length lines) (submits lines) events
lane_counts lines None events f = follows_counts [] lines events f
lane_counts lines (Some s) events f =
    let long = ap length f.cut in let many = ap submits f.cut in
    subst (Counts (length lines) (submits lines)) (sym f.is) (more_counts (length f.done + 1) (submits f.done + 0) (length lines) (submits lines) (f.events ++ f.now)
    (omega (arith, long, length-append f.done (f.line ∷ f.rest))) (omega (arith, many, submits_append f.done (f.line ∷ f.rest)))
    (counts_append (length f.done) (submits f.done) 1 0 f.events f.now (follows_counts [] f.done f.events f.follows) (breaks_counts (ids_of f.events) f.line f.now f.breaks)))

-- the lanes' entries

abbrev room : ℕ → List (List LaneStep) → ℕ
room e [] = 0
room e (l ∷ ls) = 2 * length l + e + room e ls

room_more : (e r : ℕ) (ls : List (List LaneStep)) → e ≤ r → room e ls ≤ room r ls
room_more e r [] le = omega arith
room_more e r (l ∷ ls) le = let h = room_more e r ls le in omega (arith, h, le)

room_is : (r : ℕ) (ls : List (List LaneStep)) → room r ls ≡ 2 * all_lines ls + length ls * r
room_is r [] = omega arith
room_is r (l ∷ ls) = let h = room_is r ls in let one : suc (length ls) * r ≡ r + length ls * r = suc-times (length ls) r in omega (arith, h, one)
  where
    suc-times : (n m : ℕ) → suc n * m ≡ m + n * m
    suc-times n m = omega arith

most_is : (ls : List (List LaneStep)) → most_entries ls ≡ 2 * room (all_submits ls) ls + 2 * all_submits ls
most_is ls =
    let h = room_is (all_submits ls) ls in
    let a = add-mul (2 * length ls) 2 (all_submits ls) in
    let b : 2 * length ls * all_submits ls ≡ 2 * (length ls * all_submits ls) = mul_assoc 2 (length ls) (all_submits ls) in omega (arith, h, a, b)

record LanesCount (e : ℕ) (ls : List (List LaneStep)) (events : List (List LaneEvent)) : Type 0 where
  entries : weigh_all one (lists_of events) ≤ room e ls
  drawn : weigh_all submit (lists_of events) ≤ all_submits ls

lanes_count : (pin_rules : PinRules) (log : DeskLog) (k : ℕ) (lanes : List Lane) (events : List (List LaneEvent)) → LanesRun pin_rules log k lanes events → LanesCount (ended_in pin_rules log) (map (λ (lane : Lane). lane.lines) lanes) events
lanes_count pin_rules log k [] [] s = record { entries = omega arith; drawn = omega arith }
lanes_count pin_rules log k [] (ev ∷ evs) s = absurd s
lanes_count pin_rules log k (l ∷ ls) [] s = absurd s
lanes_count pin_rules log k (l ∷ ls) (ev ∷ evs) s =
    let c = lane_counts l.lines l.stop ev s.0.follows in let more = lanes_count pin_rules log (k + 1) ls evs s.1 in
    let a = c.steps in let o = c.opens in let d = c.drawn in let p = c.polls in let b = s.0.stands.polls in let x = more.entries in let y = more.drawn in
    let ws = weigh_one (steps_of ev) in let wp = weigh_one (polls_of ev) in record { entries = omega (arith, a, o, b, x, ws, wp); drawn = omega (arith, d, p, y) }

-- the worker's entries

own_length : (k : ℕ) (number : List ℕ) (log : DeskLog) → length (map (λ (p : ℕ × DeskEntry). p.1) (placed_from k number log)) ≡ count_own number log
own_length k number [] = refl
own_length k number (m ∷ log) = go (own_length (k + 1) number log) (bytes_eq m.by number)
  where
    go : length (map (λ (p : ℕ × DeskEntry). p.1) (placed_from (k + 1) number log)) ≡ count_own number log → (b : Bool) → length (map (λ (p : ℕ × DeskEntry). p.1) (cond b ((k, entry_in m) ∷ placed_from (k + 1) number log) (placed_from (k + 1) number log))) ≡ cond b (1 + count_own number log) (count_own number log)
    go h true = omega (arith, h)
    go h false = h

all_counted : (number : List ℕ) (log : DeskLog) → count_own number log + count_other number log ≡ length log
all_counted number [] = omega arith
all_counted number (m ∷ log) = go (all_counted number log) (bytes_eq m.by number)
  where
    go : count_own number log + count_other number log ≡ length log → (b : Bool) → cond b (1 + count_own number log) (count_own number log) + cond b (count_other number log) (1 + count_other number log) ≡ suc (length log)
    go h true = omega (arith, h)
    go h false = omega (arith, h)

work_draws : (op : Step) → (op ≡ steps.Begin) ⊎ (op ≡ steps.Finish) → is_submit op ≡ 0
work_draws op (inl is) = ap is_submit is
work_draws op (inr is) = ap is_submit is

own_draws : (pin_rules : PinRules) (number : List ℕ) (log front rest : DeskLog) (k : ℕ) → log ≡ front ++ rest → IsWorked pin_rules number log → weigh submit (map (λ (p : ℕ × DeskEntry). p.1) (placed_from k number rest)) ≡ 0
own_draws pin_rules number log front [] k cut worked = refl
own_draws pin_rules number log front (m ∷ rest) k cut worked =
    let ih = own_draws pin_rules number log (front ++ m ∷ []) rest (k + 1) (cut ∙ sym (append_assoc front (m ∷ []) rest)) worked in
    by_same m.by number (λ b. weigh submit (map (λ (p : ℕ × DeskEntry). p.1) (cond b ((k, entry_in m) ∷ placed_from (k + 1) number rest) (placed_from (k + 1) number rest))) ≡ 0)
    (λ is. let d = work_draws m.op (worked front m rest cut is).kind in omega (arith, d, ih)) (λ _. ih)

-- what was drawn

drawn_is : (log : DeskLog) → weigh submit (entries_of log) ≡ drawn_in log
drawn_is [] = refl
drawn_is (m ∷ log) = let h = drawn_is log in omega (arith, h)

length_entries : (log : DeskLog) → length (entries_of log) ≡ length log
length_entries [] = refl
length_entries (m ∷ log) = ap suc (length_entries log)

-- a history is no longer than four times the lines, and of the Submits twice for each lane and twice more
pub bounded : WorkLaws → (pin_rules : PinRules) (ls : List (List LaneStep)) (stop : Option Stop) (history : List DeskEntry) → LiveHistory pin_rules ls stop history → length history ≤ most_entries ls
bounded laws pin_rules ls stop history live =
    let log : DeskLog = live.log in
    let count = subst (λ (x : List (List LaneStep)). LanesCount (ended_in pin_rules log) x live.events) live.lines_are (lanes_count pin_rules log 1 live.lanes live.events live.run) in
    let whole = shuffle_weigh one history (live.work ∷ lists_of live.events) live.shuffle in
    let draws = shuffle_weigh submit history (live.work ∷ lists_of live.events) live.shuffle in
    let wh = weigh_one history in let ww = weigh_one live.work in
    let own = ap length live.work_is ∙ own_length 0 (0 ∷ []) log in
    let none = ap (weigh submit) live.work_is ∙ own_draws pin_rules (0 ∷ []) log [] log 0 refl live.worked in
    let all = all_counted (0 ∷ []) log in
    let worker : count_own (0 ∷ []) log ≤ count_other (0 ∷ []) log + 2 * drawn_in log = worker_entries pin_rules laws (0 ∷ []) log live.worked in
    let drawn : weigh submit (entries_of log) ≡ drawn_in log = drawn_is log in
    let same = ap (weigh submit) live.bare in
    let long = ap length live.bare ∙ length_entries log in
    let few : ended_in pin_rules log ≤ drawn_in log = ended_few pin_rules laws log in
    let entries = count.entries in let lanes_drawn = count.drawn in
    let drawn_low : drawn_in log ≤ all_submits ls = omega (arith, drawn, same, draws, none, lanes_drawn) in
    let low : ended_in pin_rules log ≤ all_submits ls = omega (arith, few, drawn_low) in
    let more = room_more (ended_in pin_rules log) (all_submits ls) ls low in
    let most = most_is ls in
    omega (arith, whole, wh, ww, own, all, worker, long, entries, more, most, drawn_low)
