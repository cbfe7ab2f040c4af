-- Rows of terms: the same as of formulas, form by form.
use Rattle.std.proofs.Common.{◌≡◌, ℕ, suc, ◌<◌, ◌≤◌, sym, refl, ap, ◌∙◌, subst, arith, List, [], ◌∷◌, ◌++◌, length, get_or}
use Rattle.model_shapes.specs.Values.{Name, null, int, str, boolean}
use Rattle.model_terms.specs.Terms.{Term, literal, variable, sum, difference, appended}
use Rattle.model_terms.specs.Variables.{prog, logic, bound}
use Rattle.formula_table.specs.Growing.{grow, EachWithin, Different, Keeps}
use Rattle.dom_terms.specs.Sorts.{value_sort_of, sort_of}
use Rattle.formula_table.specs.Rows.{read_term, TermWithin}
use Rattle.formula_table.specs.declared.rows.TermRow.{TermRow}
use Rattle.formula_table.specs.declared.rows.TermRow.TheVariants as t
use Rattle.formula_table.proofs.BuiltAlike.{value_sort-one, sort-one}
use Rattle.formula_table.proofs.Growing.{keeps-at, one-more}

pub term-wider : (names m n : ℕ) (r : TermRow) → m ≤ n → TermWithin names m r
    → TermWithin names n r
term-wider names m n (t.Add a b) h w =
    let u : a < m = w.0 in let v : b < m = w.1 in (omega (arith, h, u), omega (arith, h, v))
term-wider names m n (t.Sub a b) h w =
    let u : a < m = w.0 in let v : b < m = w.1 in (omega (arith, h, u), omega (arith, h, v))
term-wider names m n (t.Cat a b) h w =
    let u : a < m = w.0 in let v : b < m = w.1 in (omega (arith, h, u), omega (arith, h, v))
term-wider names m n t.NullNode h w = w
term-wider names m n t.NullList h w = w
term-wider names m n (t.Int i) h w = w
term-wider names m n (t.Str x) h w = w
term-wider names m n (t.Bool b) h w = w
term-wider names m n (t.Prog x s) h w = w
term-wider names m n (t.Logic x s) h w = w
term-wider names m n (t.Bound i s) h w = w

pub term-stays : (names : List Name) (done all : List Term) (r : TermRow) → Keeps done all
    → TermWithin (length names) (length done) r → read_term names done r ≡ read_term names all r
term-stays names done all (t.Add a b) k w = λ j.
    sum (sym (keeps-at done all a (literal null) k w.0) j)
    (sym (keeps-at done all b (literal null) k w.1) j)
term-stays names done all (t.Sub a b) k w = λ j.
    difference (sym (keeps-at done all a (literal null) k w.0) j)
    (sym (keeps-at done all b (literal null) k w.1) j)
term-stays names done all (t.Cat a b) k w = λ j.
    appended (sym (keeps-at done all a (literal null) k w.0) j)
    (sym (keeps-at done all b (literal null) k w.1) j)
term-stays names done all t.NullNode k w = refl
term-stays names done all t.NullList k w = refl
term-stays names done all (t.Int i) k w = refl
term-stays names done all (t.Str x) k w = refl
term-stays names done all (t.Bool b) k w = refl
term-stays names done all (t.Prog x s) k w = refl
term-stays names done all (t.Logic x s) k w = refl
term-stays names done all (t.Bound i s) k w = refl

pub term-one : (names : List Name) → Different names → (all : List Term) (r s : TermRow)
    → Different all → TermWithin (length names) (length all) r
    → TermWithin (length names) (length all) s → read_term names all r ≡ read_term names all s
    → r ≡ s
term-one names n all t.NullNode t.NullNode h w v e = refl
term-one names n all t.NullList t.NullList h w v e = refl
term-one names n all (t.Int a) (t.Int b) h w v e =
    let q : int a ≡ int b = cc in let p : a ≡ b = cc in ap t.Int p
term-one names n all (t.Str x) (t.Str y) h w v e =
    let q : str (get_or names x []) ≡ str (get_or names y []) = cc in
    let p : get_or names x [] ≡ get_or names y [] = cc in ap t.Str (n x y [] w v p)
term-one names n all (t.Bool a) (t.Bool b) h w v e =
    let q : boolean a ≡ boolean b = cc in let p : a ≡ b = cc in ap t.Bool p
term-one names n all (t.Prog x a) (t.Prog y b) h w v e =
    let q : prog (get_or names x []) (value_sort_of a)
    ≡ prog (get_or names y []) (value_sort_of b) = cc in
    let p : get_or names x [] ≡ get_or names y [] = cc in
    let o : value_sort_of a ≡ value_sort_of b = cc in
    λ j. t.Prog (n x y [] w v p j) (value_sort-one a b o j)
term-one names n all (t.Logic x a) (t.Logic y b) h w v e =
    let q : logic (get_or names x []) (sort_of a) ≡ logic (get_or names y []) (sort_of b) = cc in
    let p : get_or names x [] ≡ get_or names y [] = cc in
    let o : sort_of a ≡ sort_of b = cc in λ j. t.Logic (n x y [] w v p j) (sort-one a b o j)
term-one names n all (t.Bound i a) (t.Bound k b) h w v e =
    let q : bound i (sort_of a) ≡ bound k (sort_of b) = cc in
    let p : i ≡ k = cc in let o : sort_of a ≡ sort_of b = cc in
    λ j. t.Bound (p j) (sort-one a b o j)
term-one names n all (t.Add a b) (t.Add c d) h w v e =
    let p : get_or all a (literal null) ≡ get_or all c (literal null) = cc in
    let q : get_or all b (literal null) ≡ get_or all d (literal null) = cc in
    λ j. t.Add (h a c (literal null) w.0 v.0 p j) (h b d (literal null) w.1 v.1 q j)
term-one names n all (t.Sub a b) (t.Sub c d) h w v e =
    let p : get_or all a (literal null) ≡ get_or all c (literal null) = cc in
    let q : get_or all b (literal null) ≡ get_or all d (literal null) = cc in
    λ j. t.Sub (h a c (literal null) w.0 v.0 p j) (h b d (literal null) w.1 v.1 q j)
term-one names n all (t.Cat a b) (t.Cat c d) h w v e =
    let p : get_or all a (literal null) ≡ get_or all c (literal null) = cc in
    let q : get_or all b (literal null) ≡ get_or all d (literal null) = cc in
    λ j. t.Cat (h a c (literal null) w.0 v.0 p j) (h b d (literal null) w.1 v.1 q j)
term-one names n all r s h w v e = absurd cc

-- NAMES THAT ARE ADDED LEAVE THE TERMS
pub names-stay : (old new : List Name) (done : List Term) (r : TermRow) → Keeps old new
    → TermWithin (length old) (length done) r → read_term old done r ≡ read_term new done r
names-stay old new done (t.Str x) k w = λ j. literal (str (sym (keeps-at old new x [] k w) j))
names-stay old new done (t.Prog x s) k w =
    λ j. variable (prog (sym (keeps-at old new x [] k w) j) (value_sort_of s))
names-stay old new done (t.Logic x s) k w =
    λ j. variable (logic (sym (keeps-at old new x [] k w) j) (sort_of s))
names-stay old new done (t.Add a b) k w = refl
names-stay old new done (t.Sub a b) k w = refl
names-stay old new done (t.Cat a b) k w = refl
names-stay old new done t.NullNode k w = refl
names-stay old new done t.NullList k w = refl
names-stay old new done (t.Int i) k w = refl
names-stay old new done (t.Bool b) k w = refl
names-stay old new done (t.Bound i s) k w = refl

pub term-wider-names : (m n size : ℕ) (r : TermRow) → m ≤ n → TermWithin m size r
    → TermWithin n size r
term-wider-names m n size (t.Str x) h w = let v : x < m = w in omega (arith, h, v)
term-wider-names m n size (t.Prog x s) h w = let v : x < m = w in omega (arith, h, v)
term-wider-names m n size (t.Logic x s) h w = let v : x < m = w in omega (arith, h, v)
term-wider-names m n size (t.Add a b) h w = w
term-wider-names m n size (t.Sub a b) h w = w
term-wider-names m n size (t.Cat a b) h w = w
term-wider-names m n size t.NullNode h w = w
term-wider-names m n size t.NullList h w = w
term-wider-names m n size (t.Int i) h w = w
term-wider-names m n size (t.Bool b) h w = w
term-wider-names m n size (t.Bound i s) h w = w

pub each-wider-names : (m n size : ℕ) (rows : List TermRow) → m ≤ n
    → EachWithin (TermWithin m) size rows → EachWithin (TermWithin n) size rows
each-wider-names m n size [] h w = tt
each-wider-names m n size (r ∷ rows) h w =
    (term-wider-names m n size r h w.0, each-wider-names m n (suc size) rows h w.1)

pub terms-stay-named : (old new : List Name) (done : List Term) (rows : List TermRow)
    → Keeps old new → EachWithin (TermWithin (length old)) (length done) rows
    → grow (read_term old) done rows ≡ grow (read_term new) done rows
terms-stay-named old new done [] k w = refl
terms-stay-named old new done (r ∷ rows) k w =
    terms-stay-named old new (done ++ read_term old done r ∷ []) rows k
    (subst (λ n. EachWithin (TermWithin (length old)) n rows)
    (sym (one-more done (read_term old done r))) w.1)
    ∙ ap (λ p. grow (read_term new) (done ++ p ∷ []) rows) (names-stay old new done r k w.0)
