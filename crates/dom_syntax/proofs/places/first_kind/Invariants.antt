use Rattle.std.proofs.Common.{◌≡◌, drop, map, not}
use Rattle.std.specs.List.{find}
use Rattle.model_files.specs.FileFaults.{kinds}
use Rattle.dom_syntax.specs.Faults.{kind_of}
use Rattle.dom_syntax.proofs.places.first_kind.Given as goal

abbrev pub invariant-loop-kind : goal.invariant-loop-kind
invariant-loop-kind g l =
    find (λ kind. not (g.P.Place.tests l.place l.there kind)) kinds
    ≡ find (λ kind. not (g.P.Place.tests l.place l.there kind))
    (map kind_of (drop l.kind-index l.kind-items))
