-- A worked certificate: of a theory with one procedure, which does nothing, and one step.
use Rattle.std.proofs.Common.{◌≡◌, [], ◌∷◌, refl, codes}
use Rattle.model_shapes.specs.Sorts.{grove}
use Rattle.model_formulas.specs.Formulas.{empty}
use Rattle.model_commands.specs.Commands.{skip}
use Rattle.model_commands.specs.Theories.{triple, by_rule, Theory}
use Rattle.model_certificates.specs.Certificates.{certificate_bytes}

one_step : Theory
one_step = record {
  version = 1;
  logic = [];
  procedures = record {
    name = codes "main";
    params = [];
    results = [];
    sort = grove;
    pre = empty grove;
    post = empty grove;
    body = skip;
    proof = record {
      number = 1;
      line = 6;
      reason = by_rule (codes "skip") [] [];
      judgement = triple (empty grove) skip (empty grove) grove;
    } ∷ [];
  } ∷ [];
}

-- the mark, the head, the step and the end: 85 bytes
its_bytes : certificate_bytes one_step
    ≡ 68 ∷ 76 ∷ 67 ∷ 49 ∷ 0 ∷ 0 ∷ 0 ∷ 33 ∷ 0 ∷ 0 ∷ 0 ∷ 0 ∷ 1 ∷ 0 ∷ 0 ∷ 0 ∷ 0 ∷ 0 ∷ 0 ∷ 0 ∷ 1 ∷ 0 ∷ 0
    ∷ 0 ∷ 4 ∷ 109 ∷ 97 ∷ 105 ∷ 110 ∷ 0 ∷ 0 ∷ 0 ∷ 0 ∷ 0 ∷ 0 ∷ 0 ∷ 0 ∷ 2 ∷ 11 ∷ 11 ∷ 0 ∷ 0 ∷ 0 ∷ 0 ∷
    35 ∷ 1 ∷ 0 ∷ 0 ∷ 0 ∷ 1 ∷ 0 ∷ 0 ∷ 0 ∷ 1 ∷ 0 ∷ 0 ∷ 0 ∷ 6 ∷ 1 ∷ 0 ∷ 0 ∷ 0 ∷ 4 ∷ 115 ∷ 107 ∷ 105 ∷
    112 ∷ 0 ∷ 0 ∷ 0 ∷ 0 ∷ 0 ∷ 0 ∷ 0 ∷ 0 ∷ 1 ∷ 11 ∷ 0 ∷ 11 ∷ 2 ∷ 0 ∷ 0 ∷ 0 ∷ 1 ∷ 2 ∷ []
unfolding one_step
its_bytes = refl
