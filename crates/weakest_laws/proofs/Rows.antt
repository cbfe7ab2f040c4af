-- What the rows of the table share: where a command lands, on groves that are the same too, and
-- what some node of a grove comes to.
use Rattle.std.proofs.Common.{◌≡◌, ℕ, List, [], ◌∷◌, refl, sym, ap, ◌∙◌, subst}
use mathlib.Core.HLevel.{Stable}
use Rattle.model_shapes.specs.Shapes.{SameAt, Shaped}
use Rattle.model_shapes.specs.Sorts.{ValueSort, shape, context, tree, forest, grove, node_sort, list_sort}
use Rattle.model_shapes.specs.Things.{val}
use Rattle.model_shapes.specs.Trees.{Trees, none, node, hole, fill, WellFormed}
use Rattle.model_shapes.specs.Values.{Value, FitsValue, node_number, str, list_number}
use Rattle.model_shapes.proofs.Shapes.{SameAt-sym, SameAt-eq, same-WellFormed}
use Rattle.model_terms.specs.Computing.{Computes}
use Rattle.model_terms.specs.Stores.{ProgVar, sort_of, Store, set, lookup, value_of}
use Rattle.model_terms.specs.Terms.{Term}
use Rattle.model_terms.specs.Variables.{prog}
use Rattle.model_terms.proofs.StoreLaws.{set-same}
use Rattle.model_formulas.specs.Formulas.{Formula, node_formula, application, truth}
use Rattle.model_formulas.specs.Satisfaction.{Environment, Meets, meaning_of}
use Rattle.model_formulas.proofs.Closed.{closed}
use Rattle.model_formulas.proofs.Stable.{stable}
use Rattle.model_commands.specs.Theories.{Procedures}
use Rattle.model_groves.specs.Groves.{node_at, list_at}
use Rattle.model_groves.specs.Picks.{Pick}
use Rattle.model_machine.specs.Machine.{FaultKind, Move, Piece, becomes, faults, bad_pick, move, reading}
use Rattle.model_machine.specs.SameMoves.{SameMove}
use Rattle.model_machine.proofs.Fine.{FineMove}
use Rattle.model_machine.proofs.SameRuns.{same-move}
use Rattle.triple_laws.proofs.Finding.{found-in, listed-in}
use Rattle.triple_laws.proofs.NodesMet.{NodeMet, node-met}
use Rattle.triple_laws.proofs.OneStep.{Lands}
use Rattle.entailment_laws.proofs.Pieces.{put_in}
use Rattle.model_weakest.specs.Weakest.{MeetsWith}
use Rattle.weakest_laws.specs.Table.{anywhere}
use Rattle.weakest_laws.proofs.Taking.{value-is}
use Rattle.weakest_laws.proofs.Cutting.{Cut, outside-Shaped, node-Shaped}

-- numbers for a new node, of which nothing is asked
pub any_pick : Pick
any_pick = record { node = 0; list = 0 }

-- where it is stable what is asked of an end, it is stable that a move lands
pub stable-Lands : (J : Store → Trees → Type 0) → ((st : Store) (g : Trees) → Stable (J st g))
    → (m : Move) → Stable (Lands J m)
stable-Lands J s (becomes ys st g) =
    λ h. (lists ys (λ n. h (λ x. n x.0)), s st g (λ n. h (λ x. n x.1)))
  where
    lists : (ys : List Piece) → Stable (ys ≡ [])
    lists [] h = refl
    lists (y ∷ ys) h = absurd (h (λ q. cc))
stable-Lands J s (faults f) = λ h. h (λ b. b)
stable-Lands J s bad_pick = λ h. tt

-- moves that are the same land alike
pub same-lands : (J : Store → Trees → Type 0)
    → ((st : Store) (g g' : Trees) → SameAt grove g g' → J st g → J st g')
    → (m m' : Move) → SameMove m m' → Lands J m → Lands J m'
same-lands J f (becomes ys st g) (becomes ys' st' g') e h =
    (sym e.0 ∙ h.0, subst (λ z. J z g') e.1 (f st g g' e.2 h.1))
same-lands J f (faults k) (faults k') e h = h
same-lands J f bad_pick bad_pick e h = tt
same-lands J f m m' e h = absurd e

-- the formula is met by what is the same
pub meets-same : (q : Formula) (e : Environment) (st : Store) (g g' : Trees) → SameAt grove g g'
    → MeetsWith q e st g → MeetsWith q e st g'
meets-same q e st g g' same m = closed q _ (shape grove) g g' same m

module _ (ps : Procedures) (q : Formula) (e : Environment) where
  -- a command lands on a grove where it lands on one that is the same
  pub on-the-same : (k : Pick) (x : Piece) (st : Store) (g g' : Trees) → WellFormed g
      → SameAt grove g g' → Lands (MeetsWith q e) (move ps k x st g')
      → Lands (MeetsWith q e) (move ps k x st g)
  on-the-same k x st g g' w same h =
      same-lands (MeetsWith q e) (meets-same q e) (move ps k x st g') (move ps k x st g)
      (same-move g' g (SameAt-sym grove g g' same) (same-WellFormed grove g g' same w) ps k x st) h

  pub stable-landing : (m : Move) → Stable (Lands (MeetsWith q e) m)
  stable-landing = stable-Lands (MeetsWith q e) (λ st g. stable q _ (shape grove) g)

  -- a read lands where the value that is read may be the variable's
  pub reading-lands : (found : Trees) (f : FaultKind) (v : List ℕ → ℕ → Trees → ℕ → Value)
      (x : ProgVar) (st : Store) (g : Trees) (s : List ℕ) (i : ℕ) (k : Trees) (l : ℕ) (w : Value)
      → found ≡ node s i k l none → v s i k l ≡ w → MeetsWith q e (set x w st) g
      → Lands (MeetsWith q e) (reading found f v x st g)
  reading-lands found f v x st g s i k l w is same m =
      subst (λ z. Lands (MeetsWith q e) (reading z f v x st g)) (sym is)
      (refl, subst (λ z. MeetsWith q e (set x z st) g) (sym same) m)

  -- and where it lands, something was found
  pub record Read (found : Trees) (v : List ℕ → ℕ → Trees → ℕ → Value) (x : ProgVar) (st : Store)
      (g : Trees) : Type 0 where
    pub name : List ℕ
    pub number : ℕ
    pub kids : Trees
    pub list : ℕ
    pub rest : Trees
    pub is : found ≡ node name number kids list rest
    pub fits : FitsValue (sort_of x) (v name number kids list)
    pub meets : MeetsWith q e (set x (v name number kids list) st) g

  pub read-off : (found : Trees) (f : FaultKind) (v : List ℕ → ℕ → Trees → ℕ → Value)
      (x : ProgVar) (st : Store) (g : Trees) → FineMove ps (reading found f v x st g)
      → Lands (MeetsWith q e) (reading found f v x st g) → Read found v x st g
  read-off none f v x st g fine h = absurd h
  read-off (hole r) f v x st g fine h = absurd h
  read-off (node s i k l r) f v x st g fine h = record {
    name = s;
    number = i;
    kids = k;
    list = l;
    rest = r;
    is = refl;
    fits = subst (FitsValue (sort_of x)) (set-same x (v s i k l) st)
        (fine.1.proper.fits x);
    meets = h.1;
  }

-- SOME NODE OF THE GROVE
-- the grove is the same as a context with a node, and what the formula says of it
pub record Located (s i : Term) (p : Formula) (l : Term) (e : Environment) (g : Trees) : Type 0
  where
    pub outside : Trees
    pub outside_shaped : Shaped (context tree grove) outside
    pub name : List ℕ
    pub number : ℕ
    pub kids : Trees
    pub list : ℕ
    pub shaped : Shaped (shape tree) (node name number kids list none)
    pub same : SameAt grove g (fill outside (node name number kids list none))
    pub name_is : val (str name) ≡ meaning_of e s
    pub number_is : val (node_number number) ≡ meaning_of e i
    pub list_is : val (list_number list) ≡ meaning_of e l
    pub kids_meet : Meets p e (shape forest) kids

-- the grove that has it
abbrev pub located_in : {s i : Term} {p : Formula} {l : Term} {e : Environment} {g : Trees}
    → Located s i p l e g → Trees
located_in o = fill o.outside (node o.name o.number o.kids o.list none)

-- some node in a context that meets a formula
pub locate : (G : Type 0) → Stable G → (k : Formula) (s i : Term) (p : Formula) (l : Term)
    (e : Environment) (g : Trees)
    → Meets (application tree k (node_formula s i p l)) e (shape grove) g
    → ((o : Located s i p l e g) → Meets k e (context tree grove) o.outside → G) → G
locate G st k s i p l e g m f = st (λ n. m (λ c. c.2 (λ d.
    let y : NodeMet s i p l e d.0 = node-met s i p l e d.0 d.2.2 in
    n (f (record {
      outside = c.0;
      outside_shaped = c.1;
      name = y.name;
      number = y.number;
      kids = y.kids;
      list = y.list;
      shaped = subst (Shaped (shape tree)) y.is d.1;
      same = subst (λ z. SameAt grove g (fill c.0 z)) y.is d.2.0;
      name_is = y.name_is;
      number_is = y.number_is;
      list_is = y.list_is;
      kids_meet = y.kids_meet;
    }) d.2.1))))

-- a term of the command that names the node, by its number or by its list number
module _ (s t : Term) (p : Formula) (l : Term) (e' : Environment) (g : Trees) (w : WellFormed g)
    (o : Located s t p l e' g) (st : Store)
    (agree : (x : List ℕ) (u : ValueSort) → e' (prog x u) ≡ val (lookup st x u))
  where
    pub located-formed : WellFormed (located_in o)
    located-formed = same-WellFormed grove g (located_in o) o.same w

    pub value-there : Computes node_sort t → value_of st t ≡ node_number o.number
    value-there so =
        value-is node_sort t st e' agree so o.number_is

    pub node-there : Computes node_sort t → node_at (value_of st t) (located_in o)
        ≡ node o.name o.number o.kids o.list none
    node-there so =
        ap (λ v. node_at v (located_in o)) (value-there so)
        ∙ found-in o.outside o.name o.number o.kids o.list o.outside_shaped.holes_fit.one
        located-formed

module _ (s i : Term) (p : Formula) (t : Term) (e' : Environment) (g : Trees) (w : WellFormed g)
    (o : Located s i p t e' g) (st : Store)
    (agree : (x : List ℕ) (u : ValueSort) → e' (prog x u) ≡ val (lookup st x u))
  where
    pub list-there : Computes list_sort t → list_at (value_of st t) (located_in o)
        ≡ node o.name o.number o.kids o.list none
    list-there so =
        ap (λ v. list_at v (located_in o))
        (value-is list_sort t st e' agree so o.list_is)
        ∙ listed-in o.outside o.name o.number o.kids o.list o.outside_shaped.holes_fit.one
        (same-WellFormed grove g (located_in o) o.same w)

-- a node that is cut out
pub there : (g : Trees) → Shaped (shape grove) g → (name : List ℕ) (number : ℕ) (kids : Trees)
    (list : ℕ) → Cut g name number kids list → (s i : Term) (p : Formula) (l : Term)
    (e : Environment) → val (str name) ≡ meaning_of e s
    → val (node_number number) ≡ meaning_of e i → val (list_number list) ≡ meaning_of e l
    → Meets p e (shape forest) kids → Meets (anywhere (node_formula s i p l)) e (shape grove) g
there g w name number kids list c s i p l e a b d m =
    put_in tree (shape grove) g truth (node_formula s i p l) e c.outside
    (node name number kids list none) (outside-Shaped g w name number kids list c)
    (node-Shaped g w name number kids list c) (SameAt-eq grove g _ c.is) tt (a, b, d, m)
