-- How the first fault of a theory is found place by place.
use Rattle.std.proofs.Common.{◌≡◌, ◌∙◌, sym, refl, ap, subst, ℕ, zero, suc, ◌+◌, ◌<◌, List, [], ◌∷◌, ◌++◌, map, length, get_or, drop, drop-cons, add-one, Bool, true, false, not, ◌&&◌, ◌||◌, cond, bytes_eq, Result, Ok, Err, Option, Some, None, is_some, is_none, slice_get, arith}
use Rattle.std.specs.List.{list_any}
use Rattle.std.specs.Option.{option_map}
use Rattle.model_terms.specs.TermLimits.{or_else}
use Rattle.model_formulas.specs.Formulas.{Named}
use Rattle.model_commands.specs.Theories.{ProcedureOf, Theory}
use Rattle.model_files.specs.FileFaults.{FileKind, FileFault, Place, first_kind, fault_or, first_fault_at, header, head_kind, step_kind, proof_step, steps_from, procedures_from, twice_kind, share_name, declared_by, declarations, first_file_fault}
use Rattle.model_terms.specs.Stores.{as_var}
use Rattle.model_commands.specs.SortTests.{distinct_by}
use Rattle.model_files.specs.FileLimits.{step_count}
use Rattle.theory_syntax.specs.declared.steps.Step.{Step}
use Rattle.theory_syntax.specs.declared.theories.Procedure.{Procedure}
use Rattle.theory_syntax.specs.Judgements.{judgement_of, step_of}
use Rattle.theory_syntax.specs.Theories.{procedure_of}
use Rattle.dom_syntax.specs.declared.programs.ProgramFault.{ProgramFault}
use Rattle.dom_syntax.specs.declared.programs.ProgramFault.TheVariants.{BadProgram, OutOfMemory}
use Rattle.dom_syntax.specs.declared.tables.Table.{Table}
use Rattle.dom_syntax.specs.Faults.{Reports, FaultReports, step_fault}
use Rattle.dom_syntax.specs.Places.{places_of}
use Rattle.model_files.specs.Sizes.{StepsAreSmall, ProceduresAreSmall, JudgementIsSmall, ProcedureIsSmall}
use Rattle.dom_syntax.specs.Tables.{Declaration, Declares, first_of, found}
use Rattle.dom_syntax.proofs.TableLaws.{first-append}

-- ANSWERS: a fault of the first places is the fault of all
pub fault-first : (e : ProgramFault) (a b : Option FileFault) → FaultReports e a
    → FaultReports e (or_else a b)
fault-first (BadProgram p s k) a b h = ap (λ x. or_else x b) h
fault-first OutOfMemory a b h = tt

-- and where they have none, it is that of the others
pub fault-later : {A B : Type 0} (v : A) (r : Result B ProgramFault) (a b : Option FileFault)
    → Reports (Ok v) a → Reports r b → Reports r (or_else a b)
fault-later v r a b h k = subst (λ x. Reports r (or_else x b)) (sym h) k

-- PLACES
fault-or : (place : Place) (k : Option FileKind) (later : Option FileFault)
    → fault_or place k later ≡ or_else (step_fault place.procedure place.step k) later
fault-or place None later = refl
fault-or place (Some kind) later = refl

or-assoc : (a b c : Option FileFault) → or_else a (or_else b c) ≡ or_else (or_else a b) c
or-assoc None b c = refl
or-assoc (Some f) b c = refl

-- a place before others
pub place-first : (place : Place) (rest : List Place)
    → first_fault_at (place ∷ rest)
    ≡ or_else (step_fault place.procedure place.step (first_kind place.passes))
    (first_fault_at rest)
place-first place rest = fault-or place (first_kind place.passes) (first_fault_at rest)

pub places-joined : (xs ys : List Place)
    → first_fault_at (xs ++ ys) ≡ or_else (first_fault_at xs) (first_fault_at ys)
places-joined [] ys = refl
places-joined (x ∷ xs) ys =
    place-first x (xs ++ ys)
    ∙ ap (or_else (step_fault x.procedure x.step (first_kind x.passes))) (places-joined xs ys)
    ∙ or-assoc (step_fault x.procedure x.step (first_kind x.passes)) (first_fault_at xs)
    (first_fault_at ys)
    ∙ (λ j. or_else (sym (place-first x xs) j) (first_fault_at ys))

module _ (theory : Theory) where
  -- STEPS, at an index
  module _ (number : ℕ) (f : ProcedureOf Named) (at : ℕ) (xs : List Step) (i : ℕ) (x : Step)
      (lt : i < length xs) (is : x ≡ get_or xs i x) where
    pub cut-steps : map step_of (drop i xs) ≡ step_of x ∷ map step_of (drop (i + 1) xs)
    cut-steps =
        (λ j. map step_of (drop-cons xs i x lt j))
        ∙ (λ j. step_of (sym is j) ∷ map step_of (drop (sym (add-one i) j) xs))

    pub steps-here : first_fault_at (steps_from theory number f at (map step_of (drop i xs)))
        ≡ or_else (step_fault number at (step_kind theory f at (step_of x)))
        (first_fault_at (steps_from theory number f (at + 1) (map step_of (drop (i + 1) xs))))
    steps-here =
        (λ j. first_fault_at (steps_from theory number f at (cut-steps j)))
        ∙ fault-or
        (record { procedure = number; step = at; passes = proof_step theory f at (step_of x) })
        (step_kind theory f at (step_of x))
        (first_fault_at (steps_from theory number f (at + 1) (map step_of (drop (i + 1) xs))))

    pub small-steps : StepsAreSmall (map step_of (drop i xs))
        → JudgementIsSmall (judgement_of x.judgement)
        × StepsAreSmall (map step_of (drop (i + 1) xs))
    small-steps h = subst StepsAreSmall cut-steps h

  -- PROCEDURES, at an index
  module _ (earlier : List (ProcedureOf Named)) (number : ℕ) (xs : List Procedure) (i : ℕ)
      (x : Procedure) (lt : i < length xs) (is : x ≡ get_or xs i x) where
    pub cut-procedures : map procedure_of (drop i xs)
        ≡ procedure_of x ∷ map procedure_of (drop (i + 1) xs)
    cut-procedures =
        (λ j. map procedure_of (drop-cons xs i x lt j))
        ∙ (λ j. procedure_of (sym is j) ∷ map procedure_of (drop (sym (add-one i) j) xs))

    pub procedures-here :
        first_fault_at (procedures_from theory earlier number (map procedure_of (drop i xs)))
        ≡ or_else (first_fault_at (places_of theory earlier number (procedure_of x)))
        (first_fault_at (procedures_from theory (procedure_of x ∷ earlier) (number + 1)
        (map procedure_of (drop (i + 1) xs))))
    procedures-here =
        (λ j. first_fault_at (procedures_from theory earlier number (cut-procedures j)))
        ∙ places-joined (places_of theory earlier number (procedure_of x))
        (procedures_from theory (procedure_of x ∷ earlier) (number + 1)
        (map procedure_of (drop (i + 1) xs)))

    pub small-procedures : ProceduresAreSmall (map procedure_of (drop i xs))
        → ProcedureIsSmall (procedure_of x)
        × ProceduresAreSmall (map procedure_of (drop (i + 1) xs))
    small-procedures h = subst ProceduresAreSmall cut-procedures h

    pub count-procedures : step_count (map procedure_of (drop i xs))
        ≡ length (procedure_of x).proof + step_count (map procedure_of (drop (i + 1) xs))
    count-procedures = ap step_count cut-procedures

-- HEADERS: the same whatever procedures are before it, where one has its name or none does
module _ (theory : Theory) (f : ProcedureOf Named) (one two : List (ProcedureOf Named))
    (e : not (list_any (λ g. bytes_eq f.name g.name) one)
    ≡ not (list_any (λ g. bytes_eq f.name g.name) two)) where
  same-test : (kind : FileKind) → header theory one f kind ≡ header theory two f kind
  same-test twice_kind =
      λ j. e j && distinct_by share_name (map as_var (declared_by f))
  same-test kind = refl

  pub same-head : head_kind theory one f ≡ head_kind theory two f
  same-head = λ j. first_kind (λ kind. same-test kind j)

-- EARLIER PROCEDURES: a table of their names
abbrev pub IsEarlier : Table Unit → List (ProcedureOf Named) → Type 0
IsEarlier table earlier =
    (ds : List (Declaration Unit)) × Declares (λ u. u) table ds
    × ((name : List ℕ) → is_some (first_of ds name)
    ≡ list_any (λ g. bytes_eq name g.name) earlier)

none-seen : (o : Option Unit) → is_none o ≡ not (is_some (option_map (λ u. u) o))
none-seen None = refl
none-seen (Some u) = refl

-- a name that is not there is new
pub new-name : (table : Table Unit) (earlier : List (ProcedureOf Named)) → IsEarlier table earlier
    → (name : List ℕ)
    → is_none (found table name) ≡ not (list_any (λ g. bytes_eq name g.name) earlier)
new-name table earlier h name =
    none-seen (found table name) ∙ (λ j. not (is_some (h.1.first name j))) ∙ ap not (h.2 name)

some-or : (o : Option Unit) (b : Bool)
    → is_some (or_else o (cond b (Some tt) None)) ≡ (b || is_some o)
some-or None true = refl
some-or None false = refl
some-or (Some u) true = refl
some-or (Some u) false = refl

-- one more
pub one-earlier : (table new : Table Unit) (earlier : List (ProcedureOf Named))
    → IsEarlier table earlier → (f : ProcedureOf Named) (name : List ℕ) → name ≡ f.name
    → ((ds : List (Declaration Unit)) → Declares (λ u. u) table ds
    → Declares (λ u. u) new (ds ++ (name, tt) ∷ [])) → IsEarlier new (f ∷ earlier)
one-earlier table new earlier h f name e more = (
  h.0 ++ (name, tt) ∷ [],
  more h.0 h.1,
  λ q. (λ j. is_some (first-append h.0 ((name, tt) ∷ []) q j))
      ∙ some-or (first_of h.0 q) (bytes_eq q name)
      ∙ (λ j. bytes_eq q (e j) || h.2 q j),
)

pub none-earlier : (table : Table Unit) → Declares (λ u. u) table [] → IsEarlier table []
none-earlier table h = ([], h, λ q. refl)

-- WALKS: what an early return gives
pub refused : (r : Result Unit ProgramFault) (y e : ProgramFault) (o : Option FileFault)
    → r ≡ Err y → y ≡ e → FaultReports e o → Reports r o
refused r y e o a b h = subst (λ x. Reports x o) (sym (a ∙ ap Err b)) h

module _ (theory : Theory) where
  -- a step at fault, and one that is none
  module _ (number : ℕ) (f : ProcedureOf Named) (place : ℕ) (xs : List Step) (i : ℕ) (x : Step)
      (lt : i < length xs) (is : x ≡ get_or xs i x) (whole : Option FileFault)
      (h : whole
      ≡ first_fault_at (steps_from theory number f place (map step_of (drop i xs)))) where
    pub step-bad : (e : ProgramFault)
        → FaultReports e (step_fault number place (step_kind theory f place (step_of x)))
        → FaultReports e whole
    step-bad e r =
        subst (FaultReports e) (sym (h ∙ steps-here theory number f place xs i x lt is))
        (fault-first e (step_fault number place (step_kind theory f place (step_of x)))
        (first_fault_at (steps_from theory number f (place + 1) (map step_of (drop (i + 1) xs)))) r)

    pub step-fine : step_fault number place (step_kind theory f place (step_of x)) ≡ None
        → whole ≡ first_fault_at (steps_from theory number f (place + 1)
        (map step_of (drop (i + 1) xs)))
    step-fine none =
        h ∙ steps-here theory number f place xs i x lt is
        ∙ (λ j. or_else (none j) (first_fault_at (steps_from theory number f (place + 1)
        (map step_of (drop (i + 1) xs)))))

  -- a header at fault, and one that is none
  module _ (earlier : List (ProcedureOf Named)) (number : ℕ) (f : ProcedureOf Named) where
    pub head-bad : (e : ProgramFault)
        → FaultReports e (step_fault number 0 (head_kind theory earlier f))
        → FaultReports e (first_fault_at (places_of theory earlier number f))
    head-bad e r =
        subst (FaultReports e)
        (sym (place-first
        (record { procedure = number; step = 0; passes = header theory earlier f })
        (steps_from theory number f 1 f.proof)))
        (fault-first e (step_fault number 0 (head_kind theory earlier f))
        (first_fault_at (steps_from theory number f 1 f.proof)) r)

    pub head-fine : (r : Result Unit ProgramFault)
        → step_fault number 0 (head_kind theory earlier f) ≡ None
        → Reports r (first_fault_at (steps_from theory number f 1 f.proof))
        → Reports r (first_fault_at (places_of theory earlier number f))
    head-fine r none k =
        subst (λ o. Reports r o)
        (sym (place-first
        (record { procedure = number; step = 0; passes = header theory earlier f })
        (steps_from theory number f 1 f.proof)
        ∙ (λ j. or_else (none j) (first_fault_at (steps_from theory number f 1 f.proof))))) k

  -- a procedure at fault, and one that is none
  module _ (earlier : List (ProcedureOf Named)) (number : ℕ) (xs : List Procedure) (i : ℕ)
      (x : Procedure) (lt : i < length xs) (is : x ≡ get_or xs i x) (whole : Option FileFault)
      (h : whole ≡ first_fault_at (procedures_from theory earlier number
      (map procedure_of (drop i xs)))) where
    pub procedure-bad : (e : ProgramFault)
        → FaultReports e (first_fault_at (places_of theory earlier number (procedure_of x)))
        → FaultReports e whole
    procedure-bad e r =
        subst (FaultReports e) (sym (h ∙ procedures-here theory earlier number xs i x lt is))
        (fault-first e (first_fault_at (places_of theory earlier number (procedure_of x)))
        (first_fault_at (procedures_from theory (procedure_of x ∷ earlier) (number + 1)
        (map procedure_of (drop (i + 1) xs)))) r)

    pub procedure-fine :
        first_fault_at (places_of theory earlier number (procedure_of x)) ≡ None
        → whole ≡ first_fault_at (procedures_from theory (procedure_of x ∷ earlier) (number + 1)
        (map procedure_of (drop (i + 1) xs)))
    procedure-fine none =
        h ∙ procedures-here theory earlier number xs i x lt is
        ∙ (λ j. or_else (none j) (first_fault_at (procedures_from theory
        (procedure_of x ∷ earlier) (number + 1) (map procedure_of (drop (i + 1) xs)))))

-- the procedure at an index
pub procedure-at : (xs : List Procedure) (k : ℕ) (x : Procedure) (f : ProcedureOf Named)
    → k < length xs → x ≡ get_or xs k x → slice_get (map procedure_of xs) k ≡ Some f
    → procedure_of x ≡ f
procedure-at [] k x f lt is at = absurd (omega arith)
procedure-at (y ∷ ys) zero x f lt is at = let e : Some (procedure_of y) ≡ Some f = at in cc
procedure-at (y ∷ ys) (suc k) x f lt is at = procedure-at ys k x f (omega arith) is at

-- the version or a logic declaration at fault
pub theory-bad : (theory : Theory) (e : ProgramFault)
    → FaultReports e (step_fault 0 0 (first_kind (declarations theory)))
    → FaultReports e (first_file_fault theory)
theory-bad theory e r =
    subst (FaultReports e)
    (sym (place-first (record { procedure = 0; step = 0; passes = declarations theory })
    (procedures_from theory [] 1 theory.procedures)))
    (fault-first e (step_fault 0 0 (first_kind (declarations theory)))
    (first_fault_at (procedures_from theory [] 1 theory.procedures)) r)

-- none of them
pub theory-fine : (theory : Theory) (r : Result Unit ProgramFault)
    → step_fault 0 0 (first_kind (declarations theory)) ≡ None
    → Reports r (first_fault_at (procedures_from theory [] 1 theory.procedures))
    → Reports r (first_file_fault theory)
theory-fine theory r none k =
    subst (λ o. Reports r o)
    (sym (place-first (record { procedure = 0; step = 0; passes = declarations theory })
    (procedures_from theory [] 1 theory.procedures)
    ∙ (λ j. or_else (none j) (first_fault_at (procedures_from theory [] 1 theory.procedures))))) k

-- nothing is found where something isn't
pub nothing-found : (o : Option Unit) (b : Bool) → is_some o ≡ not b → b ≡ is_none o
nothing-found None true e = refl
nothing-found None false e = absurd (cc)
nothing-found (Some u) true e = absurd (cc)
nothing-found (Some u) false e = refl
