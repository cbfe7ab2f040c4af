-- The rules of assignment, blocks, choice, loops and local variables, for runs of at most n steps.
use Rattle.std.proofs.Common.{◌≡◌, ◌⊎◌, ℕ, zero, suc, ◌<◌, List, [], ◌∷◌, ◌++◌, Bool, true, false, cond, sym, refl, ap, ◌∙◌, subst, arith, append-nil, inl, inr}
use Rattle.model_shapes.specs.Shapes.{Shaped}
use Rattle.model_shapes.specs.Sorts.{Sort, shape, context, DataSort, grove}
use Rattle.model_shapes.specs.Things.{val}
use Rattle.model_shapes.specs.Trees.{Trees}
use Rattle.model_shapes.specs.Values.{Value, FitsValue}
use Rattle.model_formulas.specs.Formulas.{Formula, conjunction, negation, equality}
use Rattle.model_formulas.specs.Satisfaction.{Environment, Meets, with_store}
use Rattle.model_formulas.specs.Setting.{setting}
use Rattle.model_formulas.specs.Substitution.{FreeIn, formula_with, replacing}
use Rattle.model_terms.specs.Terms.{literal, variable, Term}
use Rattle.model_formulas.proofs.Quantified.{replacing-env}
use Rattle.model_formulas.proofs.Substitutes.{meets-with, meets-agrees, after}
use Rattle.model_commands.specs.Commands.{Command, Block, ◌then◌, skip, block, assign, if_else, while_do, local}
use Rattle.model_terms.specs.Conditions.{Cond, truth_of}
use Rattle.model_terms.specs.Computing.{Tests}
use Rattle.model_commands.specs.ConditionFormulas.{formula_of}
use Rattle.model_commands.specs.SortTests.{BodiesSorted}
use Rattle.model_machine.specs.Machine.{run, restore, pieces_of, Piece, move}
use Rattle.model_groves.specs.Picks.{Pick}
use Rattle.model_terms.specs.Stores.{ProgVar, as_var, sort_of, Store, set, default, value_in, lookup, value_of, ProperStore}
use Rattle.model_terms.specs.Computing.{Computes}
use Rattle.model_commands.specs.Theories.{Procedures}
use Rattle.model_machine.proofs.Runs.{Well, Well-less, at_end, at_step, at_zero, followed, WellOn}
use Rattle.model_terms.proofs.StoreLaws.{set-proper, value-fits, default-fits, set-same}
use Rattle.model_commands.proofs.StoreLaws.{meaning-value, proper-store, other-store, set-meaning, true-meets, false-fails}
use Rattle.triple_laws.proofs.Ends.{At, At-map, Sound, to_sound}
use Rattle.triple_laws.proofs.Endings.{set-env}
use Rattle.entailment_laws.specs.Judgements.{AllProved}
use Rattle.triple_laws.specs.BySteps.{in_steps}
use Rattle.triple_laws.proofs.Fitting.{step-sorted}
use Rattle.rule_table.specs.Rules.{chain, block_of, last_of}
use Rattle.entailment_laws.proofs.Quantified.{setting-agrees}
use Rattle.rule_table.specs.Letters.{Link}
use Rattle.rule_table.specs.Notation.{hoare}

-- one step, and then what is left with fewer steps
pub step-first : (th : Procedures) (n : ℕ) (J : Store → Trees → Type 0) (x : Piece)
    (rest : List Piece) (st : Store) (g : Trees)
    → ((m : ℕ) → m < n → (k : Pick) → WellOn th ⊥ m J rest (move th k x st g))
    → Well th ⊥ n J (x ∷ rest) st g
step-first th zero J x rest st g w = at_zero th ⊥ J x rest st g
step-first th (suc n) J x rest st g w = at_step th ⊥ n J x rest st g (w n (omega arith))

-- where a variable is set
pub At-set : (d : DataSort) (c : Trees) (p q : Formula) (e : Environment) (st : Store) (g : Trees)
    (x : ProgVar) (v : Value) → FitsValue (sort_of x) v
    → ((b : Trees) → Meets p (with_store (lookup st) e) (shape d) b
    → Meets q (with_store (lookup (set x v st)) e) (shape d) b)
    → At d c p e st g → At d c q e (set x v st) g
At-set d c p q e st g x v fits f a =
    At-map d c p q e st (set x v st) g
    (other-store st (set x v st) e a.proper
    (set-proper x v st fits (proper-store st e a.proper))) (λ b wb. f b) a

-- a variable that isn't free may be set
pub without-var : (p : Formula) (x : ProgVar) (v : Value) (st : Store) (e : Environment) (s : Sort)
    (r : Trees) → (FreeIn (as_var x) p → ⊥) → Meets p (with_store (lookup st) e) s r
    → Meets p (with_store (lookup (set x v st)) e) s r
without-var p x v st e s r n m =
    subst (λ z. Meets p z s r) (sym (set-env x v st e))
    (meets-agrees p (with_store (lookup st) e)
    (setting (as_var x) (val v) (with_store (lookup st) e)) s r
    (λ y free. sym (setting-agrees (as_var x) (val v) (with_store (lookup st) e) p n y free)) m)

-- a condition that is true, and one that is false
when-true : (p : Formula) (b : Cond) (d : DataSort) (e : Environment) (c : Trees) (st : Store)
    (g : Trees) → Tests b → truth_of st b ≡ true → At d c p e st g
    → At d c (conjunction p (formula_of b)) e st g
when-true p b d e c st g t h a =
    At-map d c p _ e st st g a.proper
    (λ r wr m. (m, true-meets st e (proper-store st e a.proper) (shape d) r b t h)) a

when-false : (p : Formula) (b : Cond) (d : DataSort) (e : Environment) (c : Trees) (st : Store)
    (g : Trees) → Tests b → truth_of st b ≡ false → At d c p e st g
    → At d c (conjunction p (negation (formula_of b))) e st g
when-false p b d e c st g t h a =
    At-map d c p _ e st st g a.proper
    (λ r wr m. (m, false-fails st e (proper-store st e a.proper) (shape d) r b t h)) a

module _ (th : Procedures) (bodies : BodiesSorted th) where
  -- SKIP
  pub skip-sound : (n : ℕ) (p : Formula) (d : DataSort) → Sound th bodies n p skip p d
  skip-sound n p d e c wc st g a =
      step-first th n _ (run skip) [] st g (λ m l k. at_end th ⊥ m _ st g a)

  -- ASSIGNMENT
  pub assign-sound : (n : ℕ) (q : Formula) (x : ProgVar) (t : Term) (d : DataSort)
      → Computes (sort_of x) t
      → Sound th bodies n (formula_with (replacing (as_var x) t) q) (assign x t) q d
  assign-sound n q x t d so e c wc st g a =
      step-first th n _ (run (assign x t)) [] st g (λ m l k.
      at_end th ⊥ m _ (set x (value_of st t) st) g
      (At-set d c _ q e st g x (value_of st t)
      (value-fits (sort_of x) t st so (proper-store st e a.proper))
      (λ b m. subst (λ z. Meets q z (shape d) b) same
      (meets-with q (replacing (as_var x) t) (with_store (lookup st) e) (shape d) b m)) a))
    where
      same : after (replacing (as_var x) t) (with_store (lookup st) e)
          ≡ with_store (lookup (set x (value_of st t) st)) e
      same = replacing-env (as_var x) t (with_store (lookup st) e)
          ∙ ap (λ z. setting (as_var x) z (with_store (lookup st) e))
          (meaning-value (sort_of x) t st e so)
          ∙ sym (set-env x (value_of st t) st e)

  -- fewer steps
  Sound-less : (n m : ℕ) (p : Formula) (cmd : Command) (q : Formula) (d : DataSort) → m < n
      → Sound th bodies n p cmd q d → Sound th bodies m p cmd q d
  Sound-less n m p cmd q d less s e c wc st g a =
      Well-less th ⊥ n m _ (run cmd ∷ []) st g (omega arith) (s e c wc st g a)

  -- BLOCKS: the commands one after the other
  chain-sound : (n : ℕ) (d : DataSort) (p : Formula) (links : List Link)
      → AllProved (in_steps th n) (chain p links d)
      → (e : Environment) (c : Trees) → Shaped (context d grove) c
      → (st : Store) (g : Trees) → At d c p e st g
      → Well th ⊥ n (At d c (last_of p links) e) (pieces_of (block_of links)) st g
  chain-sound n d p [] h e c wc st g a = at_end th ⊥ n (At d c p e) st g a
  chain-sound n d p (link ∷ links) h e c wc st g a =
      followed th ⊥ n (At d c link.behind e) _ (run link.command ∷ []) (pieces_of (block_of links))
      (λ st' g' a'. chain-sound n d link.behind links h.1 e c wc st' g' a') st g
      (to_sound th bodies n p link.command link.behind d
      (step-sorted th link.command h.0.0) h.0.1 e c wc st g a)

  pub seq-sound : (n : ℕ) (d : DataSort) (p : Formula) (first : Command) (q : Formula)
      (links : List Link)
      → AllProved (in_steps th n) (hoare p first q d ∷ chain q links d)
      → Sound th bodies n p (block (first then block_of links)) (last_of q links) d
  seq-sound n d p first q links h e c wc st g a =
      step-first th n _ (run (block (first then block_of links))) [] st g (λ m l k.
      subst (λ z. Well th ⊥ m (At d c (last_of q links) e) z st g)
      (sym (append-nil (run first ∷ pieces_of (block_of links))))
      (Well-less th ⊥ n m _ (run first ∷ pieces_of (block_of links)) st g (omega arith)
      (chain-sound n d p (record { command = first; behind = q } ∷ links) h e c wc st g a)))

  -- CHOICE
  pub if-sound : (n : ℕ) (p : Formula) (b : Cond) (x y : Block) (q : Formula) (d : DataSort)
      → Tests b
      → Sound th bodies n (conjunction p (formula_of b)) (block x) q d
      → Sound th bodies n (conjunction p (negation (formula_of b))) (block y) q d
      → Sound th bodies n p (if_else b x y) q d
  if-sound n p b x y q d t left right e c wc st g a =
      step-first th n _ (run (if_else b x y)) [] st g (λ m l k. chosen m l (truth_of st b) refl)
    where
      chosen : (m : ℕ) → m < n → (v : Bool) → truth_of st b ≡ v
          → Well th ⊥ m (At d c q e) (run (block (cond v x y)) ∷ []) st g
      chosen m l true h =
          Sound-less n m _ (block x) q d l left e c wc st g (when-true p b d e c st g t h a)
      chosen m l false h =
          Sound-less n m _ (block y) q d l right e c wc st g (when-false p b d e c st g t h a)

  -- LOOPS
  module _ (p : Formula) (b : Cond) (x : Block) (d : DataSort) (t : Tests b) where
    abbrev ends : Formula
    ends = conjunction p (negation (formula_of b))

    pub while-sound : (n : ℕ) → Sound th bodies n (conjunction p (formula_of b)) (block x) p d
        → Sound th bodies n p (while_do b x) ends d
    while-sound zero s e c wc st g a = at_zero th ⊥ _ (run (while_do b x)) [] st g
    while-sound (suc n) s e c wc st g a =
        at_step th ⊥ n _ (run (while_do b x)) [] st g (λ k. turned
        (λ st' g' a'. while-sound n fewer e c wc st' g' a') (truth_of st b) refl)
      where
        fewer : Sound th bodies n (conjunction p (formula_of b)) (block x) p d
        fewer = Sound-less (suc n) n _ (block x) p d (omega arith) s

        turned : ((st' : Store) (g' : Trees) → At d c p e st' g'
            → Well th ⊥ n (At d c ends e) (run (while_do b x) ∷ []) st' g')
            → (v : Bool) → truth_of st b ≡ v
            → Well th ⊥ n (At d c ends e) (cond v (run (block x) ∷ run (while_do b x) ∷ []) [] ++
            []) st g
        turned again true h =
            followed th ⊥ n (At d c p e) _ (run (block x) ∷ []) (run (while_do b x) ∷ [])
            again st g
            (fewer e c wc st g (when-true p b d e c st g t h a))
        turned again false h = at_end th ⊥ n _ st g (when-false p b d e c st g t h a)

  -- LOCAL VARIABLES
  module _ (p : Formula) (x : ProgVar) (b : Block) (q : Formula) (d : DataSort)
      (free : FreeIn (as_var x) p ⊎ FreeIn (as_var x) q → ⊥)
    where
      abbrev first : Value
      first = default (sort_of x)

      abbrev with_default : Formula
      with_default = conjunction p (equality (variable (as_var x)) (literal first))

      pub local-sound : (n : ℕ) → Sound th bodies n with_default (block b) q d
          → Sound th bodies n p (local x b) q d
      local-sound n s e c wc st g a =
          step-first th n _ (run (local x b)) [] st g (λ m l k.
          followed th ⊥ m (At d c q e) _ (run (block b) ∷ []) (restore x (value_in st x) ∷ [])
          (restored m) (set x first st) g
          (Sound-less n m _ (block b) q d l s e c wc (set x first st) g entered))
        where
          entered : At d c with_default e (set x first st) g
          entered =
              At-set d c p with_default e st g x first (default-fits (sort_of x)) (λ r m. (
                without-var p x first st e (shape d) r (λ f. free (inl f)) m,
                set-meaning x (set x first st) e ∙ ap val (set-same x first st),
              )) a

          restored : (m : ℕ) (st' : Store) (g' : Trees) → At d c q e st' g'
              → Well th ⊥ m (At d c q e) (restore x (value_in st x) ∷ []) st' g'
          restored m st' g' a' =
              let old : ProperStore st = proper-store st e a.proper in
              step-first th m _ (restore x (value_in st x)) [] st' g' (λ i l k.
              at_end th ⊥ i _ (set x (value_in st x) st') g'
              (At-set d c q q e st' g' x (value_in st x) (old.fits x)
              (λ r m. without-var q x (value_in st x) st' e (shape d) r (λ f. free (inr f)) m) a'))
