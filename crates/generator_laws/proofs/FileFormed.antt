-- What reads back as the generated theory is well formed: the lines of steps don't count, and no
-- place of the generated theory is at fault.
use Rattle.std.proofs.Common.{◌≡◌, ◌∙◌, ℕ, zero, suc, ◌+◌, ◌≤◌, ◌<◌, Bool, true, false, ◌||◌, List, [], ◌∷◌, ◌++◌, map, codes, bytes_eq, Option, Some, None, refl, sym, ap, subst, arith}
use Rattle.std.specs.Fmt.{decimal}
use Rattle.std.specs.List.{list_any}
use Rattle.std.proofs.lemmas.Fmt.{decimal_injective}
use Rattle.std.proofs.lemmas.Slice.Eq.{bytes_eq-Decides}
use Rattle.model_shapes.specs.Values.{Name}
use Rattle.model_formulas.specs.Formulas.{Named}
use Rattle.model_commands.specs.Theories.{StepOf, ProcedureOf, Theory}
use Rattle.model_files.specs.FileFaults.{FileFault, FileKind, first_kind, fault_or, Place, header, proof_step, steps_from, procedures_from, first_fault_at, IsWellFormedTheory}
use Rattle.model_files.proofs.Places.{none-first}
use Rattle.model_grammar.specs.Writable.{Each}
use Rattle.model_round_trip.specs.ReadBack.{step_without_line, procedure_without_lines, without_lines}
use Rattle.model_generator.specs.Made.{most_makers}
use Rattle.model_generator.specs.Generated.{some_node, some_list, proof, maker, makers, generated_theory}

-- THE LINES of steps don't count
module _ (theory : Theory) where
  steps_same : (number : ℕ) (f : ProcedureOf Named) (at : ℕ) (steps : List (StepOf Named))
      (rest more : List Place) → first_fault_at rest ≡ first_fault_at more
      → first_fault_at (steps_from theory number (procedure_without_lines f) at
      (map step_without_line steps) ++ rest)
      ≡ first_fault_at (steps_from theory number f at steps ++ more)
  steps_same number f at [] rest more e = e
  steps_same number f at (step ∷ steps) rest more e =
      ap (fault_or (record { procedure = number; step = at; passes = proof_step theory f at step })
      (first_kind (proof_step theory f at step)))
      (steps_same number f (at + 1) steps rest more e)

  names_same : (name : Name) (earlier : List (ProcedureOf Named))
      → list_any (λ (g : ProcedureOf Named). bytes_eq name g.name)
      (map procedure_without_lines earlier)
      ≡ list_any (λ (g : ProcedureOf Named). bytes_eq name g.name) earlier
  names_same name [] = refl
  names_same name (g ∷ earlier) = ap (λ b. bytes_eq name g.name || b) (names_same name earlier)

  head_same : (earlier : List (ProcedureOf Named)) (f : ProcedureOf Named)
      → first_kind (header theory (map procedure_without_lines earlier)
      (procedure_without_lines f)) ≡ first_kind (header theory earlier f)
  head_same earlier f = rw (names_same f.name earlier) refl

  place_same : (number at : ℕ) (p q : FileKind → Bool) (o : Option FileKind)
      (later : Option FileFault)
      → fault_or (record { procedure = number; step = at; passes = p }) o later
      ≡ fault_or (record { procedure = number; step = at; passes = q }) o later
  place_same number at p q None later = refl
  place_same number at p q (Some kind) later = refl

  procedures_same : (earlier : List (ProcedureOf Named)) (number : ℕ)
      (fs : List (ProcedureOf Named))
      → first_fault_at (procedures_from theory (map procedure_without_lines earlier) number
      (map procedure_without_lines fs))
      ≡ first_fault_at (procedures_from theory earlier number fs)
  procedures_same earlier number [] = refl
  procedures_same earlier number (f ∷ fs) =
      let before : FileKind → Bool = header theory (map procedure_without_lines earlier)
      (procedure_without_lines f) in
      let after : FileKind → Bool = header theory earlier f in
      let rest = steps_same number f 1 f.proof
      (procedures_from theory (map procedure_without_lines (f ∷ earlier)) (number + 1)
      (map procedure_without_lines fs))
      (procedures_from theory (f ∷ earlier) (number + 1) fs)
      (procedures_same (f ∷ earlier) (number + 1) fs) in
      (λ i. fault_or (record { procedure = number; step = 0; passes = before })
      (head_same earlier f i) (rest i))
      ∙ place_same number 0 before after (first_kind after) _

-- NO PLACE of the generated theory is at fault, whatever procedures are beside it
abbrev file_of : List (ProcedureOf Named) → Theory
file_of fs = record { version = 1; logic = some_list ∷ some_node ∷ []; procedures = fs }

-- the procedure has the name of one before this number
record IsBefore (k : ℕ) (g : ProcedureOf Named) : Type 0 where
  number : ℕ
  before : number < k
  named : g.name ≡ codes "p" ++ decimal number

names_differ : (k j : ℕ) → k ≤ most_makers → j < k
    → bytes_eq (codes "p" ++ decimal k) (codes "p" ++ decimal j) ≡ false
names_differ k j small before =
    by_test (bytes_eq (codes "p" ++ decimal k) (codes "p" ++ decimal j)) refl
  where
    by_test : (b : Bool) → bytes_eq (codes "p" ++ decimal k) (codes "p" ++ decimal j) ≡ b
        → b ≡ false
    by_test false is = refl
    by_test true is =
        let same : codes "p" ++ decimal k ≡ codes "p" ++ decimal j =
        (bytes_eq-Decides (codes "p" ++ decimal k) (codes "p" ++ decimal j)).0 is in
        let digits : decimal k ≡ decimal j = cc in
        let number : k ≡ j = decimal_injective k j (omega arith) (omega arith) digits in
        absurd (omega arith)

later : (k : ℕ) (earlier : List (ProcedureOf Named)) → Each (IsBefore k) earlier
    → Each (IsBefore (k + 1)) earlier
later k [] h = tt
later k (g ∷ earlier) h = (
  record { number = h.0.number; before = omega (arith, h.0.before); named = h.0.named },
  later k earlier h.1,
)

name_is_new : (k : ℕ) (earlier : List (ProcedureOf Named)) → k ≤ most_makers
    → Each (IsBefore k) earlier
    → list_any (λ (g : ProcedureOf Named). bytes_eq (codes "p" ++ decimal k) g.name) earlier
    ≡ false
name_is_new k [] small h = refl
name_is_new k (g ∷ earlier) small h =
    let here : bytes_eq (codes "p" ++ decimal k) g.name ≡ false =
    ap (bytes_eq (codes "p" ++ decimal k)) h.0.named
    ∙ names_differ k h.0.number small h.0.before in
    λ i. here i || name_is_new k earlier small h.1 i

head_fine : (fs earlier : List (ProcedureOf Named)) (k : ℕ) → k ≤ most_makers
    → Each (IsBefore k) earlier → first_kind (header (file_of fs) earlier (maker k)) ≡ None
head_fine fs earlier k small h = rw (name_is_new k earlier small h) refl

steps_fine : (fs : List (ProcedureOf Named)) (number k : ℕ) (rest : List Place)
    → first_fault_at (steps_from (file_of fs) number (maker k) 1 (proof k) ++ rest)
    ≡ first_fault_at rest
steps_fine fs number k rest = refl

makers_fine : (fs earlier : List (ProcedureOf Named)) (number first n : ℕ)
    → first + n ≤ suc most_makers → Each (IsBefore first) earlier
    → first_fault_at (procedures_from (file_of fs) earlier number (makers first n)) ≡ None
makers_fine fs earlier number first zero small h = refl
makers_fine fs earlier number first (suc n) small h =
    let earliest : Each (IsBefore (first + 1)) (maker first ∷ earlier) =
    (record { number = first; before = omega arith; named = refl }, later first earlier h) in
    let rest : List Place =
    procedures_from (file_of fs) (maker first ∷ earlier) (number + 1) (makers (first + 1) n) in
    none-first number 0 (header (file_of fs) earlier (maker first))
    (steps_from (file_of fs) number (maker first) 1 (proof first) ++ rest)
    (head_fine fs earlier first (omega arith) h)
    (steps_fine fs number first rest
    ∙ makers_fine fs (maker first ∷ earlier) (number + 1) (first + 1) n (omega arith) earliest)

-- WHAT IS READ
-- no step of the generated theory has a line
makers_plain : (first n : ℕ) → map procedure_without_lines (makers first n) ≡ makers first n
makers_plain first zero = refl
makers_plain first (suc n) = λ i. maker first ∷ makers_plain (first + 1) n i

module _ (read : Theory) (n : ℕ) (e : without_lines read ≡ without_lines (generated_theory n)) where
  pub read_procedures : map procedure_without_lines read.procedures ≡ makers 1 n
  read_procedures = ap (λ (t : Theory). t.procedures) e ∙ makers_plain 1 n

  read_is : read ≡ file_of read.procedures
  read_is = λ i. record {
    version = (e i).version;
    logic = (e i).logic;
    procedures = read.procedures;
  }

  pub read_well_formed : n ≤ most_makers → IsWellFormedTheory read
  read_well_formed small =
      let file : Theory = file_of read.procedures in
      let fine : IsWellFormedTheory file =
      sym (procedures_same file [] 1 read.procedures)
      ∙ ap (λ fs. first_fault_at (procedures_from file [] 1 fs)) read_procedures
      ∙ makers_fine read.procedures [] 1 1 n (omega arith) tt in
      subst IsWellFormedTheory (sym read_is) fine
