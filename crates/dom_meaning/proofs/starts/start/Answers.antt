use Rattle.std.proofs.Common.{map, sym}
use Rattle.std.proofs.lemmas.Result.{IfOk-weaker}
use Rattle.dom_terms.specs.Values.{value_seen}
use Rattle.grove_data.specs.Trees.{forest_of}
use Rattle.dom_meaning.proofs.Beginnings.{begun_fits}
use Rattle.dom_meaning.proofs.starts.start.Goals as goal

pub returns-clause-fits : goal.returns-clause-fits
returns-clause-fits c =
    let started = c.in-Some.started.now in
    let is = sym c.in-Some.ensures.item in
    IfOk-weaker c.begun.result _ _
    (λ config begins. begun_fits c.args.theory.now c.args.procedure started
    (map value_seen c.args.arguments) (forest_of c.args.grove) config c.requires.well_formed is
    (c.requires.arguments started is) c.requires.grove begins) c.begun.ensures
