-- `reader::Symbol::collect` meets its contract: the codewords as they were sent stand at the front of its room, and are gathered block by block.
use Rattle.std.proofs.Common.{sym, ◌∙◌}
use Rattle.reader.proofs.Data.{codewords_long, flags_long, front_is, collected}
use Rattle.reader.proofs.Symbol.collect.Goals as goal

pub returns : goal.returns
returns c =
    collected _ _ c.args.self.lawful _ _ _ _ _ _
    (front_is _ _ _ _ c.codewords.ensures.0 (codewords_long _ _ _ ∙ sym c.total-n.ensures))
    (front_is _ _ _ _ c.codewords.ensures.1 (flags_long _ _ _ ∙ sym c.total-n.ensures)) c.gather.ensures c.gather-2.ensures
