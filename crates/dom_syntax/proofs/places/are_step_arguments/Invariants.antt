use Rattle.std.proofs.Common.{◌≡◌, drop, map}
use Rattle.std.specs.List.{list_all}
use Rattle.model_files.specs.FileFaults.{is_argument}
use Rattle.dom_terms.specs.Terms.{term_of}
use Rattle.dom_syntax.proofs.places.are_step_arguments.Given as goal

abbrev pub invariant-loop-argument : goal.invariant-loop-argument
invariant-loop-argument l =
    list_all is_argument (map term_of l.arguments)
    ≡ list_all is_argument (map term_of (drop l.argument-index l.arguments))
