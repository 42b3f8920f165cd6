use Rattle.std.proofs.Common.{arith}
use Rattle.script_lang.proofs.BufferLemmas.{skipped}
use Rattle.script_lang.proofs.line_buffer.LineBuffer.skip.Goals as goal

pub returns : goal.returns
returns c =
    let b = c.self.inside in
    skipped b.bytes.items c.args.self.now b.start b.end c.args.count c.self.view_is c.self.invariant.0 (omega (arith, c.self.invariant.1, c.self.invariant.2)) c.requires
