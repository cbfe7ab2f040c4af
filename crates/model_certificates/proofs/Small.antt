-- What an item spells is small: a formula has no more parts than bytes.
use Rattle.model_limits.specs.Limits.{standard_limits}
use Rattle.std.proofs.Common.{◌≡◌, ℕ, suc, ◌+◌, ◌≤◌, List, [], ◌∷◌, ◌++◌, length, sym, ap, subst, arith, length-append}
use Rattle.model_shapes.specs.Sorts.{tree, forest, grove}
use Rattle.model_formulas.specs.Formulas.{Named, truth, falsity, conjunction, disjunction, implication, negation, existential, universal, equality, at_most, empty, bare_hole, node_formula, one_tree, one_root, concatenation, grove_sum, grove_sum_hole, application, hole_adjoint, context_adjoint, same_as, length_is, value_meets}
use Rattle.model_formulas.specs.Parts.{parts}
use Rattle.model_commands.specs.Each.{Each}
use Rattle.model_commands.specs.Theories.{JudgementOf, entails, triple, StepOf, ProcedureOf, Theory}
use Rattle.model_files.specs.FileLimits.{step_count}
use Rattle.model_files.specs.Sizes.{JudgementIsSmall, StepsAreSmall, ProceduresAreSmall, TheoryIsSmall}
use Rattle.model_grammar.specs.Writable.{IsWritable}
use Rattle.model_round_trip.specs.Writable.{IsWritableJudgement, IsWritableProcedure}
use Rattle.model_certificates.specs.Numbers.{number_bytes, text_bytes, all_bytes, list_bytes}
use Rattle.model_certificates.specs.Terms.{data_sort_bytes, sort_bytes, var_bytes, prog_var_bytes, term_bytes}
use Rattle.model_certificates.specs.Formulas.{side_bytes, subject_bytes, formula_bytes}
use Rattle.model_certificates.specs.Commands.{command_bytes, judgement_bytes, reason_bytes, step_bytes, procedure_bytes}
use Rattle.model_certificates.specs.Bounds.{ProcedureFits}
use Rattle.model_certificates.specs.Certificates.{head, proof_step, IsItem}

two_parts : (p q : Named) (front : List ℕ) → parts p ≤ length (formula_bytes p)
    → parts q ≤ length (formula_bytes q)
    → 1 + (parts p + parts q) ≤ suc (length (front ++ (formula_bytes p ++ formula_bytes q)))
two_parts p q front hp hq =
    omega (
      arith,
      hp,
      hq,
      length-append front (formula_bytes p ++ formula_bytes q),
      length-append (formula_bytes p) (formula_bytes q),
    )

behind_front : (p : Named) (front : List ℕ) → parts p ≤ length (formula_bytes p)
    → 1 + parts p ≤ suc (length (front ++ formula_bytes p))
behind_front p front h = omega (arith, h, length-append front (formula_bytes p))

pub formula_small : (p : Named) → IsWritable p → parts p ≤ length (formula_bytes p)
formula_small truth w = omega arith
formula_small falsity w = omega arith
formula_small (conjunction p q) w =
    two_parts p q [] (formula_small p w.0) (formula_small q w.1)
formula_small (disjunction p q) w =
    two_parts p q [] (formula_small p w.0) (formula_small q w.1)
formula_small (implication p q) w =
    two_parts p q [] (formula_small p w.0) (formula_small q w.1)
formula_small (negation p) w = behind_front p [] (formula_small p w)
formula_small (existential x p) w = behind_front p (var_bytes x) (formula_small p w.1)
formula_small (universal x p) w = behind_front p (var_bytes x) (formula_small p w.1)
formula_small (equality a b) w = omega arith
formula_small (at_most a b) w = omega arith
formula_small (empty tree) w = absurd w
formula_small (empty forest) w = omega arith
formula_small (empty grove) w = omega arith
formula_small (bare_hole k) w = omega arith
formula_small (node_formula a b p c) w =
    omega (
      arith,
      formula_small p w.2,
      length-append (term_bytes a)
          (term_bytes b ++ (formula_bytes p ++ term_bytes c)),
      length-append (term_bytes b) (formula_bytes p ++ term_bytes c),
      length-append (formula_bytes p) (term_bytes c),
    )
formula_small (one_tree p) w = behind_front p [] (formula_small p w)
formula_small (one_root p) w = behind_front p [] (formula_small p w)
formula_small (concatenation s p q) w =
    two_parts p q (side_bytes s) (formula_small p w.0) (formula_small q w.1)
formula_small (grove_sum p q) w =
    two_parts p q [] (formula_small p w.0) (formula_small q w.1)
formula_small (grove_sum_hole p q) w =
    two_parts p q [] (formula_small p w.0) (formula_small q w.1)
formula_small (application k p q) w =
    two_parts p q (data_sort_bytes k) (formula_small p w.0) (formula_small q w.1)
formula_small (hole_adjoint p q) w =
    two_parts p q [] (formula_small p w.0) (formula_small q w.1)
formula_small (context_adjoint k p q) w =
    two_parts p q (data_sort_bytes k) (formula_small p w.0) (formula_small q w.1)
formula_small (same_as a) w = omega arith
formula_small (length_is a) w = omega arith
formula_small (value_meets s a p) w =
    behind_front p (subject_bytes a) (formula_small p w.1)

-- a judgement in so many bytes
pub judgement_small : (j : JudgementOf Named) → IsWritableJudgement j
    → length (judgement_bytes j) ≤ standard_limits.file_bytes → JudgementIsSmall j
judgement_small (entails p q s) w le =
    let fp = formula_small p w.0 in
    let fq = formula_small q w.1 in
    let a = length-append (formula_bytes p) (formula_bytes q ++ sort_bytes s) in
    let b = length-append (formula_bytes q) (sort_bytes s) in
    (omega (arith, le, fp, a), omega (arith, le, fq, a, b))
judgement_small (triple p c q k) w le =
    let fp = formula_small p w.0 in
    let fq = formula_small q w.2 in
    let a = length-append (formula_bytes p)
    (command_bytes c ++ (formula_bytes q ++ data_sort_bytes k)) in
    let b = length-append (command_bytes c) (formula_bytes q ++ data_sort_bytes k) in
    let d = length-append (formula_bytes q) (data_sort_bytes k) in
    (omega (arith, le, fp, a), omega (arith, le, fq, a, b, d))

pub step_small : (v n : ℕ) (s : StepOf Named) → IsItem v (proof_step n s)
    → JudgementIsSmall s.judgement
step_small v n s it =
    judgement_small s.judgement it.written.0.judgement (omega (
      arith,
      it.short,
      length-append (number_bytes n) (step_bytes s),
      length-append (number_bytes s.number) (number_bytes s.line
          ++ (reason_bytes s.reason ++ judgement_bytes s.judgement)),
      length-append (number_bytes s.line) (reason_bytes s.reason ++ judgement_bytes s.judgement),
      length-append (reason_bytes s.reason) (judgement_bytes s.judgement),
    ))

-- procedures, in so many bytes
procedure_length : (p : ProcedureOf Named)
    → length (formula_bytes p.pre) + length (formula_bytes p.post) + 1
    ≤ length (procedure_bytes p)
procedure_length p =
    let body = command_bytes p.body in
    let post = formula_bytes p.post in
    let pre = formula_bytes p.pre in
    let sort = data_sort_bytes p.sort in
    let results = list_bytes prog_var_bytes p.results in
    let params = list_bytes prog_var_bytes p.params in
    omega (
      arith,
      length-append (text_bytes p.name) (params ++ (results ++ (sort ++ (pre ++ (post ++ body))))),
      length-append (number_bytes (length p.name)) p.name,
      length-append params (results ++ (sort ++ (pre ++ (post ++ body)))),
      length-append results (sort ++ (pre ++ (post ++ body))),
      length-append sort (pre ++ (post ++ body)),
      length-append pre (post ++ body),
      length-append post body,
    )

procedures_small : (most : ℕ) (ps : List (ProcedureOf Named)) → most ≤ standard_limits.file_bytes
    → Each IsWritableProcedure ps → Each ProcedureFits ps
    → length (all_bytes procedure_bytes ps) ≤ most
    → ProceduresAreSmall ps × (length ps + step_count ps ≤ most)
procedures_small most [] small w f le = (tt, omega arith)
procedures_small most (p ∷ ps) small w f le =
    let long = length-append (procedure_bytes p) (all_bytes procedure_bytes ps) in
    let own = procedure_length p in
    let fp = formula_small p.pre w.0.pre in
    let fq = formula_small p.post w.0.post in
    let rest : length (all_bytes procedure_bytes ps) + length (procedure_bytes p) ≤ most =
    omega (arith, le, long) in
    let others = procedures_small (length (all_bytes procedure_bytes ps)) ps
    (omega (arith, rest, small)) w.1 f.1 (omega arith) in
    let none : length p.proof ≡ 0 = ap (length {A = StepOf Named}) f.0.proof in
    let steps : StepsAreSmall p.proof = subst StepsAreSmall (sym f.0.proof) tt in (
      ((omega (arith, small, rest, own, fp), omega (arith, small, rest, own, fq), steps), others.0),
      omega (arith, rest, own, others.1, none),
    )

pub head_small : (v : ℕ) (t : Theory) → IsItem v (head t) → TheoryIsSmall t
head_small v t it =
    let ps = all_bytes procedure_bytes t.procedures in
    let logic = list_bytes var_bytes t.logic in
    let all = list_bytes procedure_bytes t.procedures in
    let le : length ps ≤ standard_limits.file_bytes = omega (
      arith,
      it.short,
      length-append (number_bytes t.version) (logic ++ all),
      length-append logic all,
      length-append (number_bytes (length t.procedures)) ps,
    ) in
    let s = procedures_small standard_limits.file_bytes t.procedures (omega arith)
    it.written.procedures it.fits.procedures.1 le in
    (s.0, omega (arith, s.1))
