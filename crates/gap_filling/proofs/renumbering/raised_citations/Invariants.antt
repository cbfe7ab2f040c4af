use Rattle.std.proofs.Common.{◌≡◌, take, map}
use Rattle.model_filling.specs.Renumbering as filling
use Rattle.gap_filling.specs.Renumbered.{held, gap_of}
use Rattle.gap_filling.proofs.renumbering.raised_citations.Given as goal

abbrev pub invariant-loop-citation : goal.invariant-loop-citation
invariant-loop-citation l =
    l.new ≡ map held (map (filling.raised (map gap_of l.gaps))
    (take l.citation-index l.citation-items))
