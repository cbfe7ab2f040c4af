-- Needn't be believed: laws say that these are the verdicts. The verdicts by rules on equations, as
-- they are computed.
use Rattle.std.specs.Prelude.{Bool, true, false, List, [], cond}
use Rattle.model_terms.specs.Terms.{Term, literal}
use Rattle.model_formulas.specs.Formulas.{Formula, conjunction, equality, falsity}
use Rattle.model_commands.specs.Theories.{Judgement, entails}
use Rattle.rule_table.specs.Conditions.{literal_side}
use Rattle.rule_table.specs.Entailments.{different_literals}
use Rattle.rule_table.proofs.Replaced.{replaced}
use Rattle.rule_table.specs.Verdicts.{Verdict, instance_verdict, shape_verdict, side_verdict}

-- of `distinct`
abbrev pub distinct_verdict : List Term → Judgement → Verdict
distinct_verdict [] (entails (equality a b) falsity s) =
    cond (different_literals a b) instance_verdict (side_verdict literal_side)
distinct_verdict ts j = shape_verdict

-- the term is a literal
abbrev pub is_literal : Term → Bool
is_literal (literal v) = true
is_literal a = false

-- of `eq_subst`
abbrev pub by_equation : Formula → Formula → Formula → Verdict
by_equation (equality a b) p q = cond (replaced a b p q) instance_verdict shape_verdict
by_equation e p q = shape_verdict

abbrev pub subst_verdict : List Term → Judgement → Verdict
subst_verdict [] (entails (conjunction e p) q s) = by_equation e p q
subst_verdict ts j = shape_verdict
