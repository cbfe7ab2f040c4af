-- What pens write, put together. A pen that stopped makes no cases for its callers.
use Rattle.std.proofs.Common.{◌≡◌, ◌∙◌, ℕ, List, true, true≢false, [], ◌∷◌, map, Option, Some, None, Result, Ok, Err, IfOk, is_some, refl, sym, subst}
use Rattle.model_shapes.specs.Values.{Name}
use Rattle.model_formulas.specs.Formulas.{Named}
use Rattle.model_commands.specs.Theories.{JudgementOf}
use Rattle.assistant_laws.specs.Plans.{Plan, alone, from_one, from_two}
use Rattle.step_filler.specs.declared.drafts.Draft.{Draft}
use Rattle.step_filler.specs.declared.drafts.Stop.{Stop}
use Rattle.step_filler.specs.declared.drafts.Stop.TheVariants as stop
use Rattle.step_filler.specs.declared.pens.Pen.{Pen}
use Rattle.theory_syntax.specs.declared.steps.Step.{Step}
use Rattle.theory_syntax.specs.Judgements.{step_of}
use Rattle.step_filler.specs.Drafts.{IsKept, drafted, next, WritesOne, WritesPlan}
use Rattle.step_filler.specs.Given.{given_by}
use Rattle.step_filler.specs.Pens.{outcome, Stays, Goes, PensOne, Pens}
use Rattle.step_filler.proofs.Drafting.{one-stops, one-written, first-stops, second-stops, both-written, finished-is-given}

-- ONCE IT STOPPED
stays-on : (e f : Stop) (t : Option Stop) (a b c : Draft) → Stays (Some f) e a b → Stays t f b c
    → Stays t e a c
stays-on e f None a b c x y = absurd y
stays-on e f (Some stop.OutOfMemory) a b c x y = tt
stays-on stop.Full stop.Full (Some stop.Full) a b c x y = y ∙ x
stays-on stop.OutOfMemory stop.Full (Some stop.Full) a b c x y = absurd x
stays-on stop.Full stop.OutOfMemory (Some stop.Full) a b c x y = absurd y
stays-on stop.OutOfMemory stop.OutOfMemory (Some stop.Full) a b c x y = absurd y

err-on : (plan : Plan) (f : Stop) (t : Option Stop) (k : ℕ) (a b c : Draft)
    → WritesPlan plan a b (Err f) → Stays t f b c → WritesPlan plan a c (outcome t k)
err-on plan f None k a b c x y = absurd y
err-on plan f (Some stop.OutOfMemory) k a b c x y = tt
err-on plan stop.Full (Some stop.Full) k a b c x y =
    subst (λ (d : Draft). WritesPlan plan a d (Err stop.Full)) (sym y) x
err-on plan stop.OutOfMemory (Some stop.Full) k a b c x y = absurd y

still : (e : Stop) (a : Draft) → Stays (Some e) e a a
still stop.Full a = refl
still stop.OutOfMemory a = tt

stayed-one : (s : Option Stop) (a : Draft) (n : ℕ) (rule : Name) (citations : List ℕ)
    (j : JudgementOf Named) → is_some s ≡ true → Goes s s a a n (WritesOne rule citations j a a)
stayed-one None a n rule citations j e = absurd (true≢false (sym e))
stayed-one (Some e) a n rule citations j is = still e a

stayed-plan : (s : Option Stop) (a : Draft) (n : ℕ) (plan : Plan) → is_some s ≡ true
    → Goes s s a a n (WritesPlan plan a a)
stayed-plan None a n plan e = absurd (true≢false (sym e))
stayed-plan (Some e) a n plan is = still e a

pub stayed : (plan : Plan) (a : Pen) (n : ℕ) → is_some a.stopped ≡ true → Pens plan a a n
stayed plan a n is = record { goes = stayed-plan a.stopped a.draft n plan is }

pub one_stayed : (rule : Name) (citations : List ℕ) (j : JudgementOf Named) (a : Pen) (n : ℕ)
    → is_some a.stopped ≡ true → PensOne rule citations j a a n
one_stayed rule citations j a n is =
    record { goes = stayed-one a.stopped a.draft n rule citations j is }

refused-goes : (s t : Option Stop) (a b : Draft) (n : ℕ) (plan : Plan)
    → t ≡ Some stop.OutOfMemory → Goes s t a b n (WritesPlan plan a b)
refused-goes None t a b n plan is =
    subst (λ (t : Option Stop). WritesPlan plan a b (outcome t n)) (sym is) tt
refused-goes (Some e) t a b n plan is = subst (λ (t : Option Stop). Stays t e a b) (sym is) tt

pub refused : (plan : Plan) (a b : Pen) (n : ℕ) → b.stopped ≡ Some stop.OutOfMemory
    → Pens plan a b n
refused plan a b n is =
    record { goes = refused-goes a.stopped b.stopped a.draft b.draft n plan is }

-- A STEP ALONE
alone-goes : (rule : Name) (j : JudgementOf Named) (s t : Option Stop) (a b : Draft) (n : ℕ)
    → Goes s t a b n (WritesOne rule [] j a b) → Goes s t a b n (WritesPlan (alone rule j) a b)
alone-goes rule j None None a b n x = x
alone-goes rule j None (Some stop.Full) a b n x = x
alone-goes rule j None (Some stop.OutOfMemory) a b n x = x
alone-goes rule j (Some e) t a b n x = x

pub alone-pens : {rule : Name} {j : JudgementOf Named} {a b : Pen} {n : ℕ}
    → PensOne rule [] j a b n → Pens (alone rule j) a b n
alone-pens {rule} {j} {a} {b} {n} x =
    record { goes = alone-goes rule j a.stopped b.stopped a.draft b.draft n x.goes }

-- A STEP FROM ANOTHER
one-goes : (rule : Name) (p : Plan) (j : JudgementOf Named) (s t u : Option Stop) (a b c : Draft)
    (n k : ℕ) → Goes s t a b n (WritesPlan p a b)
    → Goes t u b c k (WritesOne rule (n ∷ []) j b c)
    → Goes s u a c k (WritesPlan (from_one rule p j) a c)
one-goes rule p j None None u a b c n k x y = one-written rule p j a b c n (outcome u k) x y
one-goes rule p j None (Some e) u a b c n k x y =
    err-on (from_one rule p j) e u k a b c (one-stops rule p j a b e x) y
one-goes rule p j (Some e) None u a b c n k x y = absurd x
one-goes rule p j (Some e) (Some f) u a b c n k x y = stays-on e f u a b c x y

pub one-pens : {rule : Name} {p : Plan} {j : JudgementOf Named} {a b c : Pen} {n k : ℕ}
    → Pens p a b n → PensOne rule (n ∷ []) j b c k → Pens (from_one rule p j) a c k
one-pens {rule} {p} {j} {a} {b} {c} {n} {k} x y = record {
  goes = one-goes rule p j a.stopped b.stopped c.stopped a.draft b.draft c.draft n k x.goes y.goes;
}

-- A STEP FROM TWO OTHERS
both-goes : (rule : Name) (p q : Plan) (j : JudgementOf Named) (s t u v : Option Stop)
    (a b c d : Draft) (n m k : ℕ) → Goes s t a b n (WritesPlan p a b)
    → Goes t u b c m (WritesPlan q b c) → Goes u v c d k (WritesOne rule (n ∷ m ∷ []) j c d)
    → Goes s v a d k (WritesPlan (from_two rule p q j) a d)
both-goes rule p q j None None None v a b c d n m k x y z =
    both-written rule p q j a b c d n m (outcome v k) x y z
both-goes rule p q j None None (Some e) v a b c d n m k x y z =
    err-on (from_two rule p q j) e v k a c d (second-stops rule p q j a b c n e x y) z
both-goes rule p q j None (Some e) None v a b c d n m k x y z = absurd y
both-goes rule p q j None (Some e) (Some f) v a b c d n m k x y z =
    err-on (from_two rule p q j) e v k a b d (first-stops rule p q j a b e x)
    (stays-on e f v b c d y z)
both-goes rule p q j (Some e) None u v a b c d n m k x y z = absurd x
both-goes rule p q j (Some e) (Some f) None v a b c d n m k x y z = absurd y
both-goes rule p q j (Some e) (Some f) (Some g) v a b c d n m k x y z =
    stays-on e g v a c d (stays-on e f (Some g) a b c x y) z

pub both-pens : {rule : Name} {p q : Plan} {j : JudgementOf Named} {a b c d : Pen} {n m k : ℕ}
    → Pens p a b n → Pens q b c m → PensOne rule (n ∷ m ∷ []) j c d k
    → Pens (from_two rule p q j) a d k
both-pens {rule} {p} {q} {j} {a} {b} {c} {d} {n} {m} {k} x y z = record {
  goes = both-goes rule p q j a.stopped b.stopped c.stopped d.stopped a.draft b.draft c.draft
      d.draft n m k x.goes y.goes z.goes;
}

wrote-goes : (rule : Name) (citations : List ℕ) (j : JudgementOf Named) (s t : Option Stop)
    (a b : Draft) (n : ℕ) → s ≡ None → WritesOne rule citations j a b (outcome t n)
    → Goes s t a b n (WritesOne rule citations j a b)
wrote-goes rule citations j None t a b n is x = x
wrote-goes rule citations j (Some e) t a b n is x = absurd cc

pub wrote : (rule : Name) (citations : List ℕ) (j : JudgementOf Named) (a b : Pen) (n : ℕ)
    → a.stopped ≡ None → WritesOne rule citations j a.draft b.draft (outcome b.stopped n)
    → PensOne rule citations j a b n
wrote rule citations j a b n is x = record {
  goes = wrote-goes rule citations j a.stopped b.stopped a.draft b.draft n is x;
}

-- THE OFFER of a plan whose steps a pen wrote from nothing
kept-any : (s : Option Stop) (n : ℕ) → IsKept (outcome s 0) → IsKept (outcome s n)
kept-any None n x = tt
kept-any (Some e) n x = x

written-goes : (plan : Plan) (s t : Option Stop) (a b : Draft) (n : ℕ) → s ≡ None
    → Goes s t a b n (WritesPlan plan a b) → WritesPlan plan a b (outcome t n)
written-goes plan None t a b n is x = x
written-goes plan (Some e) t a b n is x = absurd cc

pub finished : {E : Type 0} (plan : Plan) (number : ℕ) (a b : Pen) (n : ℕ) → drafted a.draft ≡ []
    → next a.draft ≡ number → a.stopped ≡ None → Pens plan a b n
    → (result : Result (List Step) E)
    → IfOk result (λ steps. (steps ≡ b.draft.steps) × IsKept (outcome b.stopped 0))
    → IfOk result (λ steps. map step_of steps ≡ given_by number plan)
finished {E} plan number a b n none first going x (Ok steps) done =
    finished-is-given {E = E} plan number a.draft b.draft (outcome b.stopped n) (Ok steps)
    none first (written-goes plan a.stopped b.stopped a.draft b.draft n going x.goes)
    (done.0, kept-any b.stopped n done.1)
finished {E} plan number a b n none first going x (Err e) done = tt
