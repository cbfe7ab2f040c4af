-- The theories that are spelled are small: no formula has more parts than lexemes, and there are no
-- more procedures and steps than lexemes.
use Rattle.std.proofs.Common.{◌≡◌, ℕ, ◌≤◌, ◌<◌, ◌+◌, List, length, map, refl, sym, subst, arith, length-append}
use Rattle.model_formulas.specs.Formulas.{Named, truth, falsity, conjunction, disjunction, implication, negation, existential, universal, equality, at_most, empty, bare_hole, node_formula, one_tree, one_root, concatenation, grove_sum, grove_sum_hole, application, hole_adjoint, context_adjoint, same_as, length_is, value_meets}
use Rattle.model_formulas.specs.Parts.{parts}
use Rattle.model_terms.specs.Variables.{Var}
use Rattle.model_terms.specs.Terms.{Term}
use Rattle.model_commands.specs.Theories.{JudgementOf, StepOf, ProcedureOf, Theory}
use Rattle.model_files.specs.FileLimits.{step_count}
use Rattle.model_files.specs.Sizes.{IsSmall, JudgementIsSmall, StepsAreSmall, ProcedureIsSmall, ProceduresAreSmall, TheoryIsSmall}
use Rattle.model_text.specs.Lexemes.{Lexeme}
use Rattle.model_text.proofs.Versions.{version_length}
use Rattle.model_grammar.specs.Words.{the, ◌⌢◌}
use Rattle.model_grammar.specs.Terms.{used_logic, SpellsLogicName, a_logic_name}
use Rattle.model_grammar.specs.Formulas as grammar
use Rattle.model_grammar.specs.Formulas.{SpellsFormula}
use Rattle.model_grammar.specs.Theories as files
use Rattle.model_grammar.specs.Theories.{SpellsJudgement, SpellsStep, SpellsSteps, SpellsProcedure, SpellsProcedures, SpellsRaw, SpellsTheory}
use Rattle.model_grammar.specs.Sorts.{Declared, sorted_formula, sorted_judgement, sorted_step, declared_in, sorted_procedure, with_sorts}

-- FORMULAS
-- a formula of one terminal, and a comparison, have one part
word_parts : {p : Named} {s : List Lexeme} → grammar.SpellsWord p s → parts p ≤ length s
word_parts grammar.true_word = omega arith
word_parts grammar.false_word = omega arith
word_parts grammar.empty_forest = omega arith
word_parts grammar.empty_grove = omega arith
word_parts grammar.tree_hole = omega arith
word_parts grammar.forest_hole = omega arith
word_parts grammar.grove_hole = omega arith

-- a sign has a lexeme, and its formula one part
record Signed (count : ℕ) (most : ℕ) (s : List Lexeme) : Type 0 where
  few : count ≤ most
  some : 1 ≤ length s

comparison_parts : {f : Term → Term → Named} {s : List Lexeme} (a b : Term)
    → grammar.SpellsComparison f s → Signed (parts (f a b)) 1 s
comparison_parts a b grammar.equal_sign = record { few = omega arith; some = omega arith }
comparison_parts a b grammar.at_most_sign = record { few = omega arith; some = omega arith }

quantifier_parts : {f : Var → Named → Named} {s : List Lexeme} (x : Var) (p : Named)
    → grammar.SpellsQuantifier f s → parts (f x p) ≤ 1 + parts p
quantifier_parts x p grammar.exists_word = omega arith
quantifier_parts x p grammar.forall_word = omega arith

connective_parts : {f : Named → Named → Named} {s : List Lexeme} (p q : Named)
    → grammar.SpellsConnective f s → parts (f p q) ≤ 1 + (parts p + parts q)
connective_parts p q grammar.and_word = omega arith
connective_parts p q grammar.or_word = omega arith
connective_parts p q grammar.arrow = omega arith
connective_parts p q grammar.star = omega arith
connective_parts p q grammar.left_star = omega arith
connective_parts p q grammar.right_star = omega arith
connective_parts p q grammar.plus = omega arith
connective_parts p q grammar.left_plus = omega arith
connective_parts p q grammar.at_tree = omega arith
connective_parts p q grammar.at_forest = omega arith
connective_parts p q grammar.at_grove = omega arith
connective_parts p q grammar.lollipop = omega arith
connective_parts p q grammar.into_tree = omega arith
connective_parts p q grammar.into_forest = omega arith
connective_parts p q grammar.into_grove = omega arith

-- the lengths of two and of three lists behind one another
two : (s t : List Lexeme) → length (s ⌢ t) ≡ length s + length t
two s t = length-append s t

three : (s t u : List Lexeme) → length (s ⌢ t ⌢ u) ≡ length s + (length t + length u)
three s t u = let a = two s (t ⌢ u) in let b = two t u in omega (arith, a, b)

-- a logic name is one lexeme
name_length : {name : List ℕ} {s : List Lexeme} → SpellsLogicName name s → length s ≡ 1
name_length (a_logic_name name) = refl

-- each part of a formula has a lexeme of its own
formula_parts : {p : Named} {s : List Lexeme} → SpellsFormula p s → parts p ≤ length s
formula_parts (grammar.a_word w) = word_parts w
formula_parts (grammar.shape_variable w) = omega (arith, name_length w)
formula_parts (grammar.comparison {a = a} {b = b} {left = l} {sign = s} {right = r} la ls lb) =
    let k = comparison_parts a b ls in
    omega (arith, k.few, k.some, three l s r)
formula_parts (grammar.node {name = s} {number = i} {children = k} {list = l} la li lp ll) =
    omega (
      arith,
      formula_parts lp,
      two s (the "#" ⌢ i ⌢ the "[" ⌢ k ⌢ the "]" ⌢ the "%" ⌢ l),
      two i (the "[" ⌢ k ⌢ the "]" ⌢ the "%" ⌢ l),
      two k (the "]" ⌢ the "%" ⌢ l),
    )
formula_parts (grammar.length la) = omega arith
formula_parts (grammar.a_tree {inner = s} lp) = omega (arith, formula_parts lp, two s (the ">"))
formula_parts (grammar.a_root {inner = s} lp) = omega (arith, formula_parts lp, two s (the "]"))
formula_parts (grammar.not {inner = s} lp) = omega (arith, formula_parts lp, two s (the ")"))
formula_parts (grammar.quantified {name = n} {p = p} {kind = k} {word = w} {inner = s} lk lw lp) =
    omega (
      arith,
      quantifier_parts (used_logic n) p lk,
      formula_parts lp,
      two k (w ⌢ the "." ⌢ s ⌢ the ")"),
      two w (the "." ⌢ s ⌢ the ")"),
      two s (the ")"),
    )
formula_parts (grammar.is {word = w} {inner = s} lw lp) =
    omega (arith, formula_parts lp, two w (the "is" ⌢ s ⌢ the ")"), two s (the ")"))
formula_parts (grammar.joined {p = p} {q = q} {left = l} {sign = s} {right = r} lp ls lq) =
    omega (
      arith,
      connective_parts p q ls,
      formula_parts lp,
      formula_parts lq,
      two l (s ⌢ r ⌢ the ")"),
      two s (r ⌢ the ")"),
      two r (the ")"),
    )

-- sorts change no parts
parts_kept : (d : Declared) (p : Named) → parts (sorted_formula d p) ≡ parts p
parts_kept d truth = refl
parts_kept d falsity = refl
parts_kept d (conjunction p q) = λ j. 1 + (parts_kept d p j + parts_kept d q j)
parts_kept d (disjunction p q) = λ j. 1 + (parts_kept d p j + parts_kept d q j)
parts_kept d (implication p q) = λ j. 1 + (parts_kept d p j + parts_kept d q j)
parts_kept d (negation p) = λ j. 1 + parts_kept d p j
parts_kept d (existential x p) = λ j. 1 + parts_kept d p j
parts_kept d (universal x p) = λ j. 1 + parts_kept d p j
parts_kept d (equality a b) = refl
parts_kept d (at_most a b) = refl
parts_kept d (empty k) = refl
parts_kept d (bare_hole k) = refl
parts_kept d (node_formula name number p list) = λ j. 1 + parts_kept d p j
parts_kept d (one_tree p) = λ j. 1 + parts_kept d p j
parts_kept d (one_root p) = λ j. 1 + parts_kept d p j
parts_kept d (concatenation side p q) = λ j. 1 + (parts_kept d p j + parts_kept d q j)
parts_kept d (grove_sum p q) = λ j. 1 + (parts_kept d p j + parts_kept d q j)
parts_kept d (grove_sum_hole p q) = λ j. 1 + (parts_kept d p j + parts_kept d q j)
parts_kept d (application h p q) = λ j. 1 + (parts_kept d p j + parts_kept d q j)
parts_kept d (hole_adjoint p q) = λ j. 1 + (parts_kept d p j + parts_kept d q j)
parts_kept d (context_adjoint k p q) = λ j. 1 + (parts_kept d p j + parts_kept d q j)
parts_kept d (same_as a) = refl
parts_kept d (length_is a) = refl
parts_kept d (value_meets s a p) = λ j. 1 + parts_kept d p j

-- THEORIES
-- few lexemes
abbrev Few : List Lexeme → Type 0
Few s = length s < 4294967295

formula_small : (d : Declared) {p : Named} {s : List Lexeme} → SpellsFormula p s → Few s
    → IsSmall (sorted_formula d p)
formula_small d {p = p} l h = omega (arith, formula_parts l, parts_kept d p)

judgement_small : (d : Declared) {j : JudgementOf Named} {s : List Lexeme} → SpellsJudgement j s
    → Few s → JudgementIsSmall (sorted_judgement d j)
judgement_small d (files.entailment {left = l} {right = r} {sort = s} lp lq ls) h =
    let a = two l (the "entails" ⌢ r ⌢ the "at" ⌢ s) in
    let b = two r (the "at" ⌢ s) in
    (formula_small d lp (omega (arith, a, h)), formula_small d lq (omega (arith, a, b, h)))
judgement_small d
    (files.a_triple {before = p} {command = c} {behind = q} {sort = s} lp lc lq ls) h =
    let x = two p (the "do" ⌢ c ⌢ the "post" ⌢ q ⌢ the "at" ⌢ s) in
    let y = two c (the "post" ⌢ q ⌢ the "at" ⌢ s) in
    let z = two q (the "at" ⌢ s) in
    (formula_small d lp (omega (arith, x, h)), formula_small d lq (omega (arith, x, y, z, h)))

step_small : (d : Declared) {x : StepOf Named} {s : List Lexeme} → SpellsStep x s → Few s
    → JudgementIsSmall (sorted_step d x).judgement
step_small d (files.a_step line {number = n} {reason = r} {judgement = j} ln lr lj) h =
    let x = two n (r ⌢ the ":" ⌢ j ⌢ the ";") in
    let y = two r (the ":" ⌢ j ⌢ the ";") in
    let z = two j (the ";") in
    judgement_small d lj (omega (arith, x, y, z, h))

-- a step has a lexeme
step_length : {x : StepOf Named} {s : List Lexeme} → SpellsStep x s → 1 ≤ length s
step_length (files.a_step line ln lr lj) = omega arith

steps_small : (d : Declared) {xs : List (StepOf Named)} {s : List Lexeme} → SpellsSteps xs s
    → Few s → StepsAreSmall (map (sorted_step d) xs)
steps_small d files.no_step h = tt
steps_small d (files.one_step {first = s} {others = t} l ls) h =
    let k = two s t in
    (step_small d l (omega (arith, k, h)), steps_small d ls (omega (arith, k, h)))

steps_length : (d : Declared) {xs : List (StepOf Named)} {s : List Lexeme} → SpellsSteps xs s
    → length (map (sorted_step d) xs) ≤ length s
steps_length d files.no_step = omega arith
steps_length d (files.one_step {first = s} {others = t} l ls) =
    omega (arith, two s t, step_length l, steps_length d ls)

-- what is asked of a procedure, with its count
record Sized (logics : List Var) (f : ProcedureOf Named) (s : List Lexeme) : Type 0 where
  small : Few s → ProcedureIsSmall (sorted_procedure logics f)
  counts : 1 + length (sorted_procedure logics f).proof ≤ length s

procedure_sized : (logics : List Var) {f : ProcedureOf Named} {s : List Lexeme}
    → SpellsProcedure f s → Sized logics f s
procedure_sized logics {f = f} (files.procedure {name = name} {params = params}
    {results = results} {sort = sort} {requires_ = pre} {ensures_ = post} {body = body}
    {proof = proof} ln lps lrs lk lp lq lc lxs) =
    let d : Declared = declared_in logics f in
    let n = two proof (the "end") in
    let m = two body (the "proof" ⌢ proof ⌢ the "end") in
    let k = two post (the "body" ⌢ body ⌢ the "proof" ⌢ proof ⌢ the "end") in
    let g = two pre (the "ensures" ⌢ post ⌢ the "body" ⌢ body ⌢ the "proof" ⌢ proof ⌢ the "end") in
    let e = two sort (the "requires" ⌢ pre ⌢ the "ensures" ⌢ post ⌢ the "body" ⌢ body
    ⌢ the "proof" ⌢ proof ⌢ the "end") in
    let c = two results (the "sort" ⌢ sort ⌢ the "requires" ⌢ pre ⌢ the "ensures" ⌢ post
    ⌢ the "body" ⌢ body ⌢ the "proof" ⌢ proof ⌢ the "end") in
    let b = two params (the "returns" ⌢ results ⌢ the "sort" ⌢ sort ⌢ the "requires" ⌢ pre
    ⌢ the "ensures" ⌢ post ⌢ the "body" ⌢ body ⌢ the "proof" ⌢ proof ⌢ the "end") in
    let a = two name (params ⌢ the "returns" ⌢ results ⌢ the "sort" ⌢ sort ⌢ the "requires" ⌢ pre
    ⌢ the "ensures" ⌢ post ⌢ the "body" ⌢ body ⌢ the "proof" ⌢ proof ⌢ the "end") in record {
      small = λ h. (
        formula_small d lp (omega (arith, a, b, c, e, g, h)),
        formula_small d lq (omega (arith, a, b, c, e, g, k, h)),
        steps_small d lxs (omega (arith, a, b, c, e, g, k, m, n, h)),
      );
      counts = omega (arith, a, b, c, e, g, k, m, n, steps_length d lxs);
    }

-- procedures, with the count of them and of their steps
record AllSized (logics : List Var) (fs : List (ProcedureOf Named)) (s : List Lexeme) : Type 0 where
  small : Few s → ProceduresAreSmall (map (sorted_procedure logics) fs)
  counts : length (map (sorted_procedure logics) fs)
      + step_count (map (sorted_procedure logics) fs) ≤ length s

procedures_sized : (logics : List Var) {fs : List (ProcedureOf Named)} {s : List Lexeme}
    → SpellsProcedures fs s → AllSized logics fs s
procedures_sized logics (files.last_procedure l) =
    let one = procedure_sized logics l in record {
      small = λ h. (one.small h, tt);
      counts = omega (arith, one.counts);
    }
procedures_sized logics (files.more_procedures {first = s} {others = t} l ls) =
    let one = procedure_sized logics l in
    let more = procedures_sized logics ls in
    let k = two s t in record {
      small = λ h. (one.small (omega (arith, k, h)), more.small (omega (arith, k, h)));
      counts = omega (arith, k, one.counts, more.counts);
    }

-- a theory that is spelled by few lexemes
raw_small : {t : Theory} {s : List Lexeme} → SpellsRaw t s → Few s → TheoryIsSmall (with_sorts t)
raw_small (files.theory {xs = xs} {version = v} {lines = l} {procedures = ps} lv ll lps) h =
    let all = procedures_sized xs lps in
    let a = two v (l ⌢ ps) in
    let b = two l ps in
    (all.small (omega (arith, a, b, h)), omega (arith, a, b, h, all.counts))

pub theory_small : {t : Theory} {s : List Lexeme} → SpellsTheory t s → length s < 4294967295
    → TheoryIsSmall t
theory_small {s = s} spelled h =
    subst TheoryIsSmall (sym spelled.sorted)
    (raw_small spelled.spelled (omega (arith, version_length s)))
