-- The plans by form, as they are written: the order in which steps come depends on the way.
use Rattle.std.proofs.Common.{◌≡◌, ◌∙◌, ℕ, codes, List, [], ◌∷◌, refl, sym, subst, ap}
use Rattle.model_shapes.specs.Sorts.{Sort, shape, tree, forest}
use Rattle.model_shapes.specs.Values.{Name}
use Rattle.model_terms.specs.Terms.{Term}
use Rattle.model_formulas.specs.Formulas.{Named, empty, node_formula}
use Rattle.model_commands.specs.Theories.{JudgementOf, entails}
use Rattle.assistant_laws.specs.FormPlans.{tidied, from_alone, tree_plan, forest_plan}
use Rattle.assistant_laws.specs.Plans.{Plan, alone}
use Rattle.assistant_laws.specs.Ways as ways
use Rattle.assistant_laws.specs.Ways.{onward, backward, other, turned, row, itself, by_way_of, inside, beside}
use Rattle.step_filler.specs.declared.pens.Pen.{Pen}
use Rattle.step_filler.specs.declared.turns.Way.{Way}
use Rattle.step_filler.specs.declared.turns.Way.TheVariants as w
use Rattle.step_filler.specs.Pens.{Pens, PensOne}
use Rattle.step_filler.specs.Turns.{way_of}
use Rattle.step_filler.proofs.Penning.{both-pens}

-- THE SAME that was written, under another name
pub pens-as : {a b : Plan} {before after : Pen} {n : ℕ} → Pens a before after n → a ≡ b
    → Pens b before after n
pens-as {a} {b} {before} {after} {n} x is =
    subst (λ (plan : Plan). Pens plan before after n) is x

pub one-as : {rule : Name} {citations : List ℕ} {j k : JudgementOf Named} {before after : Pen}
    {n : ℕ} → PensOne rule citations j before after n → j ≡ k
    → PensOne rule citations k before after n
one-as {rule} {citations} {j} {k} {before} {after} {n} x is =
    subst (λ (j : JudgementOf Named). PensOne rule citations j before after n) is x

-- WHAT IS WRITTEN BY WAY OF another formula, either way
pub onward-pens : {way : Way} {a b : Plan} {p r : Named} {s : Sort}
    {first second third last : Pen} {n m k : ℕ} → way ≡ w.Onward → Pens a first second n
    → Pens b second third m → PensOne (codes "cut") (n ∷ m ∷ []) (entails p r s) third last k
    → Pens (by_way_of (way_of way) a b p r s) first last k
onward-pens {way} {a} {b} {p} {r} {s} {first} {second} {third} {last} {n} {m} {k} is x y z =
    subst (λ (way : Way). Pens (by_way_of (way_of way) a b p r s) first last k) (sym is)
    (both-pens x y z)

pub backward-pens : {way : Way} {a b : Plan} {p r : Named} {s : Sort}
    {first second third last : Pen} {n m k : ℕ} → way ≡ w.Backward → Pens b first second n
    → Pens a second third m → PensOne (codes "cut") (n ∷ m ∷ []) (entails r p s) third last k
    → Pens (by_way_of (way_of way) a b p r s) first last k
backward-pens {way} {a} {b} {p} {r} {s} {first} {second} {third} {last} {n} {m} {k} is x y z =
    subst (λ (way : Way). Pens (by_way_of (way_of way) a b p r s) first last k) (sym is)
    (both-pens x y z)

-- a rule that is read the other way
pub onward-back : (law : Name) (p q : Named) (s : Sort) {way : Way} {before after : Pen} {n : ℕ}
    → way ≡ w.Onward → Pens (row backward law p q s) before after n
    → Pens (row (other (way_of way)) law p q s) before after n
onward-back law p q s {way} {before} {after} {n} is x =
    subst (λ (way : Way). Pens (row (other (way_of way)) law p q s) before after n) (sym is) x

pub backward-back : (law : Name) (p q : Named) (s : Sort) {way : Way} {before after : Pen} {n : ℕ}
    → way ≡ w.Backward → Pens (row onward law p q s) before after n
    → Pens (row (other (way_of way)) law p q s) before after n
backward-back law p q s {way} {before} {after} {n} is x =
    subst (λ (way : Way). Pens (row (other (way_of way)) law p q s) before after n) (sym is) x

-- THE PLANS, with names for the formulas on the way
module _ (way : ways.Way) where
  -- what a step says
  pub turned-is : (s : Sort) {a b c d : Named} → a ≡ b → c ≡ d
      → turned way a c s ≡ turned way b d s
  turned-is s {a} {b} {c} {d} e f =
      ap (λ (x : Named). turned way x c s) e ∙ ap (λ (x : Named). turned way b x s) f

  -- a node
  pub node-is : (p k : Named) (name number list : Term) → p ≡ node_formula name number k list
      → inside way (codes "mono_node") (from_alone way (forest_plan way k (empty forest)) k) p
      (tidied p) (shape tree) ≡ tree_plan way p
  node-is p k name number list is = subst (λ (f : Named).
      inside way (codes "mono_node") (from_alone way (forest_plan way k (empty forest)) k) f
      (tidied f) (shape tree) ≡ tree_plan way f) (sym is) refl

  -- what stands beside none first
  abbrev ended : Name → Sort → Plan → Named → Named → Named → Plan
  ended law s plan p start end =
      by_way_of way (row (other way) law start p s) plan p end s

  pub ended-is : (law : Name) (s : Sort) (plan : Plan) (p : Named) {a b c d : Named} → a ≡ b
      → c ≡ d → ended law s plan p a c ≡ ended law s plan p b d
  ended-is law s plan p {a} {b} {c} {d} e f =
      ap (λ (x : Named). ended law s plan p x c) e ∙ ap (λ (x : Named). ended law s plan p b x) f

  -- what stands beside none, on the other side
  abbrev crossed : Name → Name → Sort → Named → Named → Named → Plan
  crossed rule law s t start middle =
      by_way_of way (alone rule (turned way start middle s)) (row way law middle t s) start t s

  pub crossed-is : (rule law : Name) (s : Sort) (t : Named) {a b c d : Named} → a ≡ b → c ≡ d
      → crossed rule law s t a c ≡ crossed rule law s t b d
  crossed-is rule law s t {a} {b} {c} {d} e f =
      ap (λ (x : Named). crossed rule law s t x c) e
      ∙ ap (λ (x : Named). crossed rule law s t b x) f

  -- two that are taken in
  abbrev staged : Name → Name → Sort → Named → Plan → (Named → Plan) → Named → Named → Named
      → Named → Named → Plan
  staged law rule s p inner outer start middle rest next end =
      by_way_of way (row way law start middle s)
      (by_way_of way (beside way rule (itself p s) inner middle next s) (outer rest) middle end s)
      start end s

  pub staged-is : (law rule : Name) (s : Sort) (p : Named) (inner : Plan) (outer : Named → Plan)
      {a b c d e f g h i j : Named} → a ≡ b → c ≡ d → e ≡ f → g ≡ h → i ≡ j
      → staged law rule s p inner outer a c e g i ≡ staged law rule s p inner outer b d f h j
  staged-is law rule s p inner outer {a} {b} {c} {d} {e} {f} {g} {h} {i} {j} k l m n o =
      let plan = staged law rule s p inner outer in
      ap (λ (x : Named). plan x c e g i) k ∙ ap (λ (x : Named). plan b x e g i) l
      ∙ ap (λ (x : Named). plan b d x g i) m ∙ ap (λ (x : Named). plan b d f x i) n
      ∙ ap (λ (x : Named). plan b d f h x) o
