use Rattle.std.proofs.Common.{ap, length, refl, subst, sym, take, drop, List, ℕ, ◌+◌, ◌<◌, ◌≡◌, ◌∙◌}
use Rattle.disk_core.specs.Causes.{HasCause}
use Rattle.script_lang.specs.Gathering.{IsFound, IsFront}
use Rattle.script_lang.specs.Lines.{Reader, Stays, feed_at, still, IsShort}
use Rattle.script_lang.specs.declared.line_buffer.Found.{Found}
use Rattle.script_lang.proofs.LineLemmas.{leaves_rest, short_line, shows_line}
use Rattle.script_lang.proofs.line_reader.LineReader.next.Goals as goal

pub returns-in-Ok-Line : goal.returns-in-Ok-Line
returns-in-Ok-Line g c =
    let old = c.args.self.now in
    let found = c.find.new.self in
    let size = c.in-Ok-Line.size in
    let used = c.in-Ok-Line.used in
    let kept : c.skip.new.self ≡ c.args.self.now.kept = c.skip.ensures ∙ ap (λ (r : Reader). r.kept) c.self.view_is in
    let lines : c.self.inside.lines ≡ c.args.self.now.lines = ap (λ (r : Reader). r.lines) c.self.view_is in
    let text : Stays (still c.args.self.now.kept (g.S.Source.left c.args.source.now)) (still c.find.new.self (g.S.Source.left c.find.new.source)) =
    subst (λ (kept : List ℕ). Stays (still kept (g.S.Source.left c.args.source.now)) (still c.find.new.self (g.S.Source.left c.find.new.source))) kept c.in-Ok-Line.ensures.text in
    let told = still c.skip.new.self (g.S.Source.left c.args.source.now) in
    let is_front : IsFront c.self.inside.lines c.find.new.self c.in-Ok-Line.size c.in-Ok-Line.used = subst (λ (f : Found). IsFound c.self.inside.lines told c.find.new.self f) c.in-Ok-Line.field-0-is c.in-Ok-Line.ensures.found in
    let front : IsFront c.args.self.now.lines c.find.new.self c.in-Ok-Line.size c.in-Ok-Line.used = subst (λ (n : ℕ). IsFront n c.find.new.self c.in-Ok-Line.size c.in-Ok-Line.used) lines is_front in
    let line : take c.in-Ok-Line.size c.items.result.now ≡ take c.in-Ok-Line.size c.find.new.self = ap (take size) c.items.ensures in
    let cause : HasCause {T = Found} (g.S.Source.faults c.args.source.now) (g.S.Source.faults c.find.new.source) _ = c.in-Ok-Line.ensures.cause in (
      (refl, λ _. tt, leaves_rest _ _ old _ found size used text front (ap (λ (n : ℕ). record { kept = drop used found; lines = n + 1 }) lines)),
      record {
        after = tt;
        shows = shows_line _ _ old.lines found _ size used text front line;
        short = subst (IsShort old.lines) (sym line) (short_line old.lines found size used front);
        cause = record { later = cause.later; failed = tt; done = cause.done };
        lazy = λ lt. (c.in-Ok-Line.ensures.lazy (subst (λ (k : List ℕ). feed_at k < length k) (sym kept) lt)).1;
      },
    )
