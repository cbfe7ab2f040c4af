-- The readers that give each part its sorts as it is read: each gives what the reader of theories
-- without sorts gives, with its sorts, and stops where that one stops.
use Rattle.std.proofs.Common.{◌≡◌, ℕ, zero, suc, List, [], ◌∷◌, map, Option, Some, None, Result, Ok, Err, refl, sym, ap, ◌∙◌, codes, ◌⊎◌, inl, inr}
use Rattle.model_shapes.specs.Sorts.{DataSort}
use Rattle.model_terms.specs.Variables.{Var}
use Rattle.model_terms.specs.Stores.{ProgVar}
use Rattle.model_commands.specs.Theories.{Theory}
use Rattle.model_text.specs.Lexemes.{Lexeme}
use Rattle.model_grammar.specs.Sorts.{Declared, sorted_step, sorted_procedure, with_sorts}
use Rattle.token_readers.specs.Leaves.{leaf_name, leaf_number, leaf_step}
use Rattle.token_readers.specs.Reading.{Stop, Answer, Read, ◌>>=◌, ret, then, terminal_at, expect, leaf, first, begun, begins, many, the_terminal}
use Rattle.token_readers.specs.Spelling.{ended, whole}
use Rattle.token_readers.proofs.Sound.{bind_ok, bind_err}
use Rattle.logic_text.specs.FormulaReaders.{formula_at}
use Rattle.proof_text.specs.Lists.{leaf_data_sort, bracketed_at}
use Rattle.proof_text.specs.Commands.{command_at}
use Rattle.proof_text.specs.Theories.{declaration_at, step_tail, contents_at, procedure_tail, more_procedures_at, procedures_at, logic_lines_at, joined_lines, theory_at}
use Rattle.proof_text.specs.SortedTheories.{mapped, sorted_step_tail, sorted_steps_at, declared_with, formula_sorted, command_sorted, sorted_contents_at, sorted_procedure_tail, more_sorted_procedures_at, sorted_procedures_at, sorted_theory_at}

-- ---- readers in general

-- s reads what r reads, changed by the function
pub record Turns {A B : Type 0} (f : A → B) (r : Read A) (s : Read B) : Type 0 where
  pub same : (ts : List Lexeme) → s ts ≡ mapped f r ts

pub mapped-turned : {A B : Type 0} (f : A → B) (r : Read A) → Turns f r (mapped f r)
mapped-turned f r = record { same = λ ts. refl }

pub ret-turned : {A B : Type 0} (f : A → B) (a : A) → Turns f (ret a) (ret (f a))
ret-turned f a = record { same = λ ts. refl }

-- an answer, its value changed
abbrev changed : {A B : Type 0} → (A → B) → Answer A → Answer B
changed f y = y >>= λ x. Ok (f x.0, x.1)

-- what goes on behind an answer, changed
bind-same : {A B C : Type 0} (f : B → C) (y : Answer A) (k : A → Read B) (l : A → Read C)
    → ((a : A) → Turns f (k a) (l a))
    → (y >>= λ x. l x.0 x.1) ≡ changed f (y >>= λ x. k x.0 x.1)
bind-same f (Ok x) k l h = (h x.0).same x.1
bind-same f (Err e) k l h = refl

pub then-turned : {A B C : Type 0} {f : B → C} (r : Read A) (k : A → Read B) (l : A → Read C)
    → ((a : A) → Turns f (k a) (l a)) → Turns f (then r k) (then r l)
then-turned {f = f} r k l h = record { same = λ ts. bind-same f (r ts) k l h }

-- the same, where the first answer is changed too
bind-both : {A D B C : Type 0} (g : A → D) (f : B → C) (y : Answer A) (k : A → Read B)
    (l : D → Read C) → ((a : A) → Turns f (k a) (l (g a)))
    → (changed g y >>= λ x. l x.0 x.1) ≡ changed f (y >>= λ x. k x.0 x.1)
bind-both g f (Ok x) k l h = (h x.0).same x.1
bind-both g f (Err e) k l h = refl

pub both-turned : {A D B C : Type 0} {g : A → D} {f : B → C} {r : Read A} {s : Read D}
    (k : A → Read B) (l : D → Read C) → Turns g r s → ((a : A) → Turns f (k a) (l (g a)))
    → Turns f (then r k) (then s l)
both-turned {g = g} {f = f} {r = r} k l first h = record {
  same = λ ts. ap (λ z. z >>= λ x. l x.0 x.1) (first.same ts) ∙ bind-both g f (r ts) k l h;
}

-- what stands behind a terminal, changed
bind-rest : {A B : Type 0} (f : A → B) (y : Result (List Lexeme) Stop) (r : Read A) (s : Read B)
    → Turns f r s → (y >>= s) ≡ changed f (y >>= r)
bind-rest f (Ok rest) r s h = h.same rest
bind-rest f (Err e) r s h = refl

pub expect-turned : {A B : Type 0} {f : A → B} {r : Read A} {s : Read B} (word : List ℕ)
    → Turns f r s → Turns f (expect word r) (expect word s)
expect-turned {f = f} {r = r} {s = s} word h = record {
  same = λ ts. bind-rest f (terminal_at word ts) r s h;
}

-- what begins, or the other answer, changed
begun-same : {X A B : Type 0} (f : A → B) (y : Option (X × List Lexeme)) (r : X → Read A)
    (s : X → Read B) → ((x : X) → Turns f (r x) (s x)) → (other : Answer A) (others : Answer B)
    → others ≡ changed f other → begun y s others ≡ changed f (begun y r other)
begun-same f (Some y) r s h other others e = (h y.0).same y.1
begun-same f None r s h other others e = e

pub begins-turned : {X A B : Type 0} {f : A → B} {other : Read A} {others : Read B}
    (start : Lexeme → Option X) (r : X → Read A) (s : X → Read B)
    → ((x : X) → Turns f (r x) (s x)) → Turns f other others
    → Turns f (begins start r other) (begins start s others)
begins-turned {f = f} {other = other} {others = others} start r s h e = record {
  same = λ ts. begun-same f (first start ts) r s h (other ts) (others ts) (e.same ts);
}

-- a list of items that are changed
pub many-turned : {X A B : Type 0} {g : A → B} (start : Lexeme → Option X) (r : X → Read A)
    (s : X → Read B) → ((x : X) → Turns g (r x) (s x)) → (m : ℕ)
    → Turns (map g) (many start r m) (many start s m)
unfolding many
many-turned start r s h zero = record { same = λ ts. refl }
many-turned {g = g} start r s h (suc m) =
    begins-turned start _ _ (λ x. both-turned _ _ (h x) λ a.
    both-turned _ _ (many-turned start r s h m) λ xs.
    ret-turned (map g) (a ∷ xs))
    (ret-turned (map g) [])

pub many-mapped : {X A B : Type 0} (f : Lexeme → Option X) (g : A → B) (item : X → Read A) (m : ℕ)
    (ts : List Lexeme)
    → many f (λ x. mapped g (item x)) m ts ≡ mapped (map g) (many f item m) ts
many-mapped f g item m ts =
    (many-turned f item (λ x. mapped g (item x)) (λ x. mapped-turned g (item x)) m).same ts

-- ---- whole lists

-- at the end of a list it doesn't matter when the value is changed
ended-mapped : {A B : Type 0} (f : A → B) (a : A) (rest : List Lexeme)
    → ended (f a) rest ≡ (ended a rest >>= λ b. Ok (f b))
ended-mapped f a [] = refl
ended-mapped f a (t ∷ rest) = refl

answer-mapped : {A B : Type 0} (f : A → B) (y : Answer A)
    → (changed f y >>= λ x. ended x.0 x.1) ≡ ((y >>= λ x. ended x.0 x.1) >>= λ a. Ok (f a))
answer-mapped f (Ok x) = ended-mapped f x.0 x.1
answer-mapped f (Err e) = refl

pub whole-mapped : {A B : Type 0} (f : A → B) (r : Read A) (ts : List Lexeme)
    → whole (mapped f r) ts ≡ (whole r ts >>= λ a. Ok (f a))
whole-mapped f r ts = answer-mapped f (r ts)

-- the same of a reader that reads what the other reads, changed
pub whole-turned : {A B : Type 0} {f : A → B} {r : Read A} {s : Read B} → Turns f r s
    → (ts : List Lexeme) → whole s ts ≡ (whole r ts >>= λ a. Ok (f a))
whole-turned {f = f} {r = r} h ts =
    ap (λ z. z >>= λ x. ended x.0 x.1) (h.same ts) ∙ whole-mapped f r ts

-- what was read, as an answer of whole lists
abbrev given : {A : Type 0} → A → Result A Stop
given a = Ok a

-- what was read to the end is the other's value, changed
pub whole-read : {A B : Type 0} {f : A → B} {r : Read A} {s : Read B} → Turns f r s
    → (ts : List Lexeme) (b : B) → whole s ts ≡ Ok b
    → (a : A) × (whole r ts ≡ Ok a) × (b ≡ f a)
whole-read {f = f} {r = r} h ts b e =
    let found = bind_ok (whole r ts) (λ a. given (f a)) b (sym (whole-turned h ts) ∙ e) in
    let last : given (f found.0) ≡ given b = found.2 in
    (found.0, found.1, cc)

-- where nothing was read to the end, the other stopped at the same place
pub whole-stops : {A B : Type 0} {f : A → B} {r : Read A} {s : Read B} → Turns f r s
    → (ts : List Lexeme) (e : Stop) → whole s ts ≡ Err e → whole r ts ≡ Err e
whole-stops {A = A} {f = f} {r = r} h ts e stops =
    by_cases (bind_err (whole r ts) (λ a. given (f a)) e (sym (whole-turned h ts) ∙ stops))
  where
    by_cases : ((whole r ts ≡ Err e)
        ⊎ ((a : A) × (whole r ts ≡ Ok a) × (given (f a) ≡ Err e)))
        → whole r ts ≡ Err e
    by_cases (inl same) = same
    by_cases (inr found) = let no : given (f found.0) ≡ Err e = found.2 in absurd cc

-- ---- steps

pub step-turned : (d : Declared) (depth most line : ℕ)
    → Turns (sorted_step d) (step_tail depth most line) (sorted_step_tail d depth most line)
unfolding sorted_step_tail
step-turned d depth most line = mapped-turned (sorted_step d) (step_tail depth most line)

pub steps-turned : (d : Declared) (depth most : ℕ)
    → Turns (map (sorted_step d)) (many leaf_step (step_tail depth most) most)
    (sorted_steps_at d depth most)
unfolding sorted_steps_at
steps-turned d depth most =
    many-turned leaf_step (step_tail depth most) (sorted_step_tail d depth most)
    (step-turned d depth most) most

pub sorted-steps : (d : Declared) (depth most : ℕ) (ts : List Lexeme)
    → sorted_steps_at d depth most ts
    ≡ mapped (map (sorted_step d)) (many leaf_step (step_tail depth most) most) ts
sorted-steps d depth most ts = (steps-turned d depth most).same ts

-- ---- procedures

pub contents-turned : (logics : List Var) (depth most : ℕ) (f : List ℕ) (xs ys : List ProgVar)
    (k : DataSort) → Turns (sorted_procedure logics) (contents_at depth most f xs ys k)
    (sorted_contents_at logics depth most f xs ys k)
unfolding contents_at sorted_contents_at formula_sorted command_sorted
contents-turned logics depth most f xs ys k =
    expect-turned (codes "requires") (then-turned (formula_at depth) _ _ λ p.
    expect-turned (codes "ensures") (then-turned (formula_at depth) _ _ λ q.
    expect-turned (codes "body") (then-turned (command_at most depth) _ _ λ c.
    expect-turned (codes "proof") (both-turned _ _
    (steps-turned (declared_with logics xs ys c) depth most) λ steps.
    expect-turned (codes "end") (ret-turned (sorted_procedure logics) (record {
      name = f;
      params = xs;
      results = ys;
      sort = k;
      pre = p;
      post = q;
      body = c;
      proof = steps;
    }))))))

pub sorted-contents : (logics : List Var) (depth most : ℕ) (f : List ℕ) (xs ys : List ProgVar)
    (k : DataSort) (ts : List Lexeme) → sorted_contents_at logics depth most f xs ys k ts
    ≡ mapped (sorted_procedure logics) (contents_at depth most f xs ys k) ts
sorted-contents logics depth most f xs ys k ts =
    (contents-turned logics depth most f xs ys k).same ts

pub tail-turned : (logics : List Var) (depth most : ℕ)
    → Turns (sorted_procedure logics) (procedure_tail depth most)
    (sorted_procedure_tail logics depth most)
unfolding procedure_tail sorted_procedure_tail
tail-turned logics depth most =
    then-turned (leaf leaf_name) _ _ λ f. then-turned (bracketed_at declaration_at most) _ _ λ xs.
    expect-turned (codes "returns") (then-turned (bracketed_at declaration_at most) _ _ λ ys.
    expect-turned (codes "sort") (then-turned (leaf leaf_data_sort) _ _ λ k.
    contents-turned logics depth most f xs ys k))

pub sorted-tail : (logics : List Var) (depth most : ℕ) (ts : List Lexeme)
    → sorted_procedure_tail logics depth most ts
    ≡ mapped (sorted_procedure logics) (procedure_tail depth most) ts
sorted-tail logics depth most ts = (tail-turned logics depth most).same ts

pub more-turned : (logics : List Var) (depth most : ℕ)
    → Turns (map (sorted_procedure logics)) (more_procedures_at depth most)
    (more_sorted_procedures_at logics depth most)
unfolding more_procedures_at more_sorted_procedures_at
more-turned logics depth most = many-turned (the_terminal (codes "proc")) _ _
    (λ x. tail-turned logics depth most) most

pub more-sorted-procedures : (logics : List Var) (depth most : ℕ) (ts : List Lexeme)
    → more_sorted_procedures_at logics depth most ts
    ≡ mapped (map (sorted_procedure logics)) (more_procedures_at depth most) ts
more-sorted-procedures logics depth most ts = (more-turned logics depth most).same ts

pub procedures-turned : (logics : List Var) (depth most : ℕ)
    → Turns (map (sorted_procedure logics)) (procedures_at depth most)
    (sorted_procedures_at logics depth most)
unfolding procedures_at sorted_procedures_at
procedures-turned logics depth most =
    expect-turned (codes "proc") (both-turned _ _ (tail-turned logics depth most) λ f.
    both-turned _ _ (more-turned logics depth most) λ fs.
    ret-turned (map (sorted_procedure logics)) (f ∷ fs))

pub sorted-procedures : (logics : List Var) (depth most : ℕ) (ts : List Lexeme)
    → sorted_procedures_at logics depth most ts
    ≡ mapped (map (sorted_procedure logics)) (procedures_at depth most) ts
sorted-procedures logics depth most ts = (procedures-turned logics depth most).same ts

-- ---- theories

pub theory-turned : (depth most : ℕ)
    → Turns with_sorts (theory_at depth most) (sorted_theory_at depth most)
unfolding theory_at sorted_theory_at
theory-turned depth most =
    expect-turned (codes "domlogic") (then-turned (leaf leaf_number) _ _ λ n.
    then-turned (logic_lines_at most) _ _ λ lines.
    both-turned _ _ (procedures-turned (joined_lines lines) depth most) λ fs.
    ret-turned with_sorts (record { version = n; logic = joined_lines lines; procedures = fs }))

pub sorted-theory : (depth most : ℕ) (ts : List Lexeme)
    → sorted_theory_at depth most ts ≡ mapped with_sorts (theory_at depth most) ts
sorted-theory depth most ts = (theory-turned depth most).same ts

-- a list that is read with sorts is read without, and gets its sorts
pub read-raw : (depth most : ℕ) (ts : List Lexeme) (t : Theory)
    → whole (sorted_theory_at depth most) ts ≡ Ok t
    → (raw : Theory) × (whole (theory_at depth most) ts ≡ Ok raw) × (t ≡ with_sorts raw)
read-raw depth most = whole-read (theory-turned depth most)

-- a list that isn't read with sorts isn't read without, and the reading stops at the same place
pub not-read-raw : (depth most : ℕ) (ts : List Lexeme) (e : Stop)
    → whole (sorted_theory_at depth most) ts ≡ Err e → whole (theory_at depth most) ts ≡ Err e
not-read-raw depth most = whole-stops (theory-turned depth most)
