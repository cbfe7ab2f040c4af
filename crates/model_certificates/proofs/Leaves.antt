-- Numbers, texts, names, sorts and variables are read exactly.
use Rattle.model_limits.specs.Limits.{standard_limits}
use Rattle.std.proofs.Common.{◌≡◌, ℕ, zero, suc, ◌≤◌, ℤ, pos, negsuc, Bool, true, false, ◌&&◌, List, [], ◌∷◌, ◌++◌, length, take, drop, Some, refl, sym, ap, subst, ◌∙◌, append_assoc, arith, length-append, bytes_eq, codes, if◌then◌else◌}
use Rattle.std.specs.Prelude.{nat_le}
use Rattle.std.specs.List.{list_all}
use Rattle.std.specs.Int.{w32, w64, to_be_bytes, from_be_bytes, cast_signed, cast_unsigned}
use Rattle.std.specs.Str.{is_utf8}
use Rattle.std.proofs.lemmas.Bool.{leb-true, le-leb}
use Rattle.std.proofs.lemmas.List.{take_at, drop_at, take-append-drop, length-take}
use Rattle.std.proofs.lemmas.Nat.{from_be_bytes-to_be_bytes_4, from_be_bytes-to_be_bytes_8}
use Rattle.std.specs.Prelude.{FitsSigned}
use Rattle.std.proofs.lemmas.Int.{to_z-of_z, fits_signed_from_abs}
use Rattle.std.proofs.Math.Facts.{Fits-of_z, Fits-lt-pow}
use Rattle.std.proofs.lemmas.Str.{IsUtf8-from_is_utf8, is_utf8-from_IsUtf8}
use Rattle.std.proofs.lemmas.Slice.Eq.{bytes_eq-Decides}
use Rattle.model_shapes.specs.Sorts.{ValueSort, DataSort, Sort, value, shape, context, node_sort, list_sort, int_sort, str_sort, bool_sort, tree, forest, grove}
use Rattle.model_terms.specs.Variables.{Var, prog, logic, bound}
use Rattle.model_terms.specs.Stores.{ProgVar, named}
use Rattle.model_commands.specs.Each.{Each}
use Rattle.model_text.specs.Lexemes.{Lexeme, terminal, step_word, name_lexeme, logic_lexeme, word_lexeme, is_reserved}
use Rattle.model_text.specs.Nesting.{lexemes_of}
use Rattle.model_grammar.specs.Writing.{name_lexemes}
use Rattle.model_grammar.specs.Writable.{IsName, IsLogicName, IsWritableName, IsLogic}
use Rattle.model_round_trip.specs.Writable.{IsWord}
use Rattle.model_certificates.specs.Numbers.{number_bytes, integer_bytes, truth_bytes, text_bytes, all_bytes, list_bytes, IsNumber, IsText, IsList}
use Rattle.model_certificates.specs.Terms.{value_sort_bytes, data_sort_bytes, sort_bytes, var_bytes, prog_var_bytes}
use Rattle.model_certificates.specs.Bounds.{VarFits, ProgVarFits}
use Rattle.model_certificates.specs.Reading.{Read, ◌>>=◌, counted, number_at, is_written, integer_at, truth_at, letters, text_at, listed, is_name_of, is_logic_of, is_free, same_word, is_word_of, name_at, logic_name_at, word_at, value_sort_at, data_sort_at, sort_at, prog_var_at, logic_var_at}
use Rattle.model_certificates.proofs.Words.{are_of, and_true}
use Rattle.model_certificates.proofs.Exact.{bind_some, passed, both_true, are_true, Spelling, Taken, Exact, Always, every, parts, made_again, made_takes, both_exact, kept_exact, tested, tested_exact, fixed_exact, no_more, ◌or◌, tagged_takes, variant, alone}

-- ---- numbers

abbrev pub numbers : (ℕ → Type 0) → Spelling ℕ
numbers W = record { bytes = number_bytes; Writes = W; Fits = IsNumber; words = every }

pub number_exact : (W : ℕ → Type 0) → ((n : ℕ) → IsNumber n → W n) → Exact number_at (numbers W)
unfolding number_at
number_exact W all = fixed_exact (numbers W) 4 (from_be_bytes w32)
    (λ n. nat_le n standard_limits.numeral) (λ n. refl)
    (λ n w f. from_be_bytes-to_be_bytes_4 n (omega arith)) (λ n w f. le-leb _ _ f)
    (λ n t. let f : IsNumber n = leb-true _ _ t in (all n f, f)) (λ n. refl)

-- the integer can be written
abbrev pub IsWritten : ℤ → Type 0
IsWritten (pos n) = n ≤ standard_limits.integer
IsWritten (negsuc n) = suc n ≤ standard_limits.integer

abbrev pub integers : Spelling ℤ
integers = record { bytes = integer_bytes; Writes = IsWritten; Fits = Always; words = every }

integer_said : (z : ℤ) → is_written z ≡ true → IsWritten z × Always z
integer_said (pos n) t = (leb-true _ _ t, tt)
integer_said (negsuc n) t = (leb-true _ _ t, tt)

integer_holds : (z : ℤ) → IsWritten z → Always z → is_written z ≡ true
integer_holds (pos n) w f = le-leb _ _ w
integer_holds (negsuc n) w f = le-leb _ _ w

integer_fits : (z : ℤ) → IsWritten z → FitsSigned w64 z
integer_fits (pos n) w = fits_signed_from_abs w64 (pos n) (omega arith)
integer_fits (negsuc n) w = fits_signed_from_abs w64 (negsuc n) (omega arith)

integer_round : (z : ℤ) → IsWritten z
    → cast_signed w64 (from_be_bytes w64 (to_be_bytes w64 (cast_unsigned w64 z))) ≡ z
integer_round z w =
    let fits : FitsSigned w64 z = integer_fits z w in
    ap (cast_signed w64) (from_be_bytes-to_be_bytes_8 (cast_unsigned w64 z)
    (Fits-lt-pow (Fits-of_z fits)))
    ∙ to_z-of_z w64 z fits

pub integer_exact : Exact integer_at integers
unfolding integer_at
integer_exact = fixed_exact integers 8 (λ bs. cast_signed w64 (from_be_bytes w64 bs)) is_written
    (λ z. refl) (λ z w f. integer_round z w) integer_holds integer_said (λ z. refl)

-- ---- texts

abbrev pub texts : ℕ → (List ℕ → Type 0) → Spelling (List ℕ)
texts most W = record { bytes = text_bytes; Writes = W; Fits = IsText most; words = every }

pub text_exact : (most : ℕ) → most ≤ standard_limits.numeral
    → Exact (text_at most) (texts most Always)
unfolding text_at
text_exact most small =
    let N = number_exact Always (λ n f. tt) in
    record {
      again = λ t rest w f o.
          let number : number_at (text_bytes t ++ rest) ≡ Some (length t, t ++ rest) =
          ap number_at (append_assoc (number_bytes (length t)) t rest)
          ∙ N.again (length t) (t ++ rest) tt (omega (arith, f.1)) refl in
          let enough : nat_le (length t) (length (t ++ rest)) ≡ true =
          le-leb _ _ (omega (arith, length-append t rest)) in
          let short : nat_le (length t) most ≡ true = le-leb _ _ f.1 in
          let front : take (length t) (t ++ rest) ≡ t = take_at t rest (length t) refl in
          let back : drop (length t) (t ++ rest) ≡ rest = drop_at t rest (length t) refl in
          let utf8 : is_utf8 t ≡ true = is_utf8-from_IsUtf8 t f.0 in
          rw (number, enough, short, front, back, utf8) refl;
      takes = λ bs t rest e.
          let x = bind_some (number_at bs) (λ (n : ℕ × List ℕ). letters most n.0 n.1) (t, rest) e in
          let n = x.0.0 in
          let more = x.0.1 in
          let number = N.takes bs n more x.1 in
          let p = passed (nat_le n (length more) && (nat_le n most && is_utf8 (take n more)))
          (take n more, drop n more) (t, rest) x.2 in
          let b = both_true (nat_le n (length more)) (nat_le n most && is_utf8 (take n more)) p.0 in
          let c = both_true (nat_le n most) (is_utf8 (take n more)) b.1 in
          let enough : n ≤ length more = leb-true _ _ b.0 in
          let short : n ≤ most = leb-true _ _ c.0 in
          let long : length (take n more) ≡ n = omega (arith, length-take n more) in
          let cut : bs ≡ text_bytes (take n more) ++ drop n more = number.0
          ∙ ap (λ (z : List ℕ). number_bytes n ++ z) (sym (take-append-drop n more))
          ∙ sym (append_assoc (number_bytes n) (take n more) (drop n more))
          ∙ ap (λ (k : ℕ). (number_bytes k ++ take n more) ++ drop n more) (sym long) in
          subst (λ (y : List ℕ × List ℕ). Taken (texts most Always) bs y.0 y.1) p.1
          (cut, tt, (IsUtf8-from_is_utf8 (take n more) c.1, omega arith), refl);
    }

-- ---- names

name_is : (name : List ℕ) (lexemes : List Lexeme) → is_name_of name lexemes ≡ true
    → lexemes ≡ name_lexeme name ∷ []
name_is name (name_lexeme w ∷ []) e =
    ap (λ (z : List ℕ). name_lexeme z ∷ []) ((bytes_eq-Decides w name).0 e)
name_is name lexemes e = absurd cc

is_name : (name : List ℕ) (lexemes : List Lexeme) → lexemes ≡ name_lexeme name ∷ []
    → is_name_of name lexemes ≡ true
is_name name lexemes e = rw e ((bytes_eq-Decides name name).1 refl)

logic_is : (name : List ℕ) (lexemes : List Lexeme) → is_logic_of name lexemes ≡ true
    → lexemes ≡ logic_lexeme name ∷ []
logic_is name (logic_lexeme w ∷ []) e =
    ap (λ (z : List ℕ). logic_lexeme z ∷ []) ((bytes_eq-Decides w name).0 e)
logic_is name lexemes e = absurd cc

is_logic : (name : List ℕ) (lexemes : List Lexeme) → lexemes ≡ logic_lexeme name ∷ []
    → is_logic_of name lexemes ≡ true
is_logic name lexemes e = rw e ((bytes_eq-Decides name name).1 refl)

word_is : (x y : Lexeme) → same_word x y ≡ true → x ≡ y
word_is (terminal v) (terminal w) e = ap terminal ((bytes_eq-Decides v w).0 e)
word_is (step_word m) (step_word n) e =
    let b = both_true (nat_le m n) (nat_le n m) e in
    let h : m ≡ n = omega (arith, leb-true m n b.0, leb-true n m b.1) in
    ap step_word h
word_is (name_lexeme v) (name_lexeme w) e = ap name_lexeme ((bytes_eq-Decides v w).0 e)
word_is _ _ e = absurd cc

word_lexeme_same : (name : List ℕ) → same_word (word_lexeme name 1) (word_lexeme name 1) ≡ true
word_lexeme_same name = by_tests (bytes_eq name (codes "step")) (is_reserved name)
  where
    by_tests : (b r : Bool)
        → same_word (if b then step_word 1 else (if r then terminal name else name_lexeme name))
        (if b then step_word 1 else (if r then terminal name else name_lexeme name)) ≡ true
    by_tests true r = refl
    by_tests false true = (bytes_eq-Decides name name).1 refl
    by_tests false false = (bytes_eq-Decides name name).1 refl

word_alone : (name : List ℕ) (lexemes : List Lexeme) → is_word_of name lexemes ≡ true
    → lexemes ≡ word_lexeme name 1 ∷ []
word_alone name (x ∷ []) e =
    ap (λ (z : Lexeme). z ∷ []) (word_is x (word_lexeme name 1) e)
word_alone name [] e = absurd cc
word_alone name (x ∷ (y ∷ lexemes)) e = absurd cc

is_word : (name : List ℕ) (lexemes : List Lexeme) → lexemes ≡ word_lexeme name 1 ∷ []
    → is_word_of name lexemes ≡ true
is_word name lexemes e = rw e (word_lexeme_same name)

abbrev pub names : (List ℕ → Type 0) → Spelling (List ℕ)
names W = texts standard_limits.file_bytes W

pub name_exact : (v : ℕ) → Exact (name_at v) (tested (is_free v) (names IsName))
unfolding name_at
name_exact v = tested_exact (is_free v)
    (kept_exact (λ name. is_name_of name (lexemes_of name)) IsName
    (λ name w e. name_is name (lexemes_of name) e) (λ name w. tt)
    (λ name w. is_name name (lexemes_of name) w)
    (text_exact standard_limits.file_bytes (omega arith)))

pub logic_name_exact : Exact logic_name_at (names IsLogicName)
unfolding logic_name_at
logic_name_exact = kept_exact (λ name. is_logic_of name (lexemes_of name)) IsLogicName
    (λ name w e. logic_is name (lexemes_of name) e) (λ name w. tt)
    (λ name w. is_logic name (lexemes_of name) w)
    (text_exact standard_limits.file_bytes (omega arith))

pub word_exact : Exact word_at (names IsWord)
unfolding word_at
word_exact = kept_exact (λ name. is_word_of name (lexemes_of name)) IsWord
    (λ name w e. word_alone name (lexemes_of name) e) (λ name w. tt)
    (λ name w. is_word name (lexemes_of name) w)
    (text_exact standard_limits.file_bytes (omega arith))

-- ---- sorts

abbrev pub plain : {A : Type 0} → (A → List ℕ) → Spelling A
plain spelled = record { bytes = spelled; Writes = Always; Fits = Always; words = every }

value_sort_again : (s : ValueSort) (rest : List ℕ)
    → value_sort_at (value_sort_bytes s ++ rest) ≡ Some (s, rest)
value_sort_again node_sort rest = refl
value_sort_again list_sort rest = refl
value_sort_again int_sort rest = refl
value_sort_again str_sort rest = refl
value_sort_again bool_sort rest = refl

pub value_sort_exact : Exact value_sort_at (plain value_sort_bytes)
value_sort_exact = record {
  again = λ s rest w f o. value_sort_again s rest;
  takes = tagged_takes (plain value_sort_bytes) _ (
      alone node_sort refl tt tt refl
      or alone list_sort refl tt tt refl
      or alone int_sort refl tt tt refl
      or alone str_sort refl tt tt refl
      or alone bool_sort refl tt tt refl
      or no_more);
}

data_sort_again : (k : DataSort) (rest : List ℕ)
    → data_sort_at (data_sort_bytes k ++ rest) ≡ Some (k, rest)
data_sort_again tree rest = refl
data_sort_again forest rest = refl
data_sort_again grove rest = refl

pub data_sort_exact : Exact data_sort_at (plain data_sort_bytes)
data_sort_exact = record {
  again = λ k rest w f o. data_sort_again k rest;
  takes = tagged_takes (plain data_sort_bytes) _ (
      alone tree refl tt tt refl
      or alone forest refl tt tt refl
      or alone grove refl tt tt refl
      or no_more);
}

truth_again : (b : Bool) (rest : List ℕ) → truth_at (truth_bytes b ++ rest) ≡ Some (b, rest)
truth_again false rest = refl
truth_again true rest = refl

pub truth_exact : Exact truth_at (plain truth_bytes)
truth_exact = record {
  again = λ b rest w f o. truth_again b rest;
  takes = tagged_takes (plain truth_bytes) _ (
      alone false refl tt tt refl
      or alone true refl tt tt refl
      or no_more);
}

sort_again : (s : Sort) (rest : List ℕ) → sort_at (sort_bytes s ++ rest) ≡ Some (s, rest)
unfolding sort_at
sort_again (value s) rest = made_again value value_sort_exact s rest tt tt refl
sort_again (shape k) rest = made_again shape data_sort_exact k rest tt tt refl
sort_again (context h k) rest =
    made_again (λ x. context x.0 x.1) (both_exact data_sort_exact data_sort_exact) (h, k) rest
    (tt, tt) (tt, tt) refl

pub sort_exact : Exact sort_at (plain sort_bytes)
unfolding sort_at
sort_exact = record {
  again = λ s rest w f o. sort_again s rest;
  takes = tagged_takes (plain sort_bytes) _ (
      variant value value_sort_exact (λ x w. refl) (λ x w. tt) (λ x f. tt) (λ x w. refl)
      or variant shape data_sort_exact (λ x w. refl) (λ x w. tt) (λ x f. tt) (λ x w. refl)
      or variant (λ x. context x.0 x.1) (both_exact data_sort_exact data_sort_exact) (λ x w. refl)
      (λ x w. tt) (λ x f. tt) (λ x w. refl)
      or no_more);
}

-- ---- variables

abbrev pub prog_vars : ℕ → Spelling ProgVar
prog_vars v = record {
  bytes = prog_var_bytes;
  Writes = IsWritableName;
  Fits = ProgVarFits;
  words = λ x. are_of v (name_lexemes x);
}

-- the parts of a variable of a program
abbrev name_and_sort : ProgVar → List ℕ × ValueSort
name_and_sort (named name s) = (name, s)

module _ (v : ℕ) where
  one_free : (name : List ℕ) (s : ValueSort)
      → are_of v (name_lexemes (named name s)) ≡ ((is_free v name && true) && true)
  one_free name s = sym (and_true (is_free v name && true))

  prog_var_again : (x : ProgVar) (rest : List ℕ) → IsWritableName x → ProgVarFits x
      → are_of v (name_lexemes x) ≡ true
      → prog_var_at v (prog_var_bytes x ++ rest) ≡ Some (x, rest)
  unfolding prog_var_at
  prog_var_again (named name s) rest w f o =
      made_again (λ x. named x.0 x.1) (both_exact (name_exact v) value_sort_exact) (name, s) rest
      (w, tt) (f, tt) (sym (one_free name s) ∙ o)

  pub prog_var_exact : Exact (prog_var_at v) (prog_vars v)
  unfolding prog_var_at
  prog_var_exact = record {
    again = prog_var_again;
    takes = made_takes (prog_vars v) [] (λ x. named x.0 x.1)
        (both_exact (name_exact v) value_sort_exact) (λ x w. refl) (λ x w. w.0) (λ x f. f.0)
        (λ x w. one_free x.0 x.1);
  }

abbrev pub logic_vars : Spelling Var
logic_vars = record { bytes = var_bytes; Writes = IsLogic; Fits = VarFits; words = every }

logic_var_again : (x : Var) (rest : List ℕ) → IsLogic x → VarFits x
    → logic_var_at (var_bytes x ++ rest) ≡ Some (x, rest)
unfolding logic_var_at
logic_var_again (logic name s) rest w f =
    made_again (λ x. logic x.0 x.1) (both_exact logic_name_exact sort_exact) (name, s) rest (w, tt)
    (f, tt) refl
logic_var_again (prog name s) rest w f = absurd w
logic_var_again (bound i s) rest w f = absurd w

pub logic_var_exact : Exact logic_var_at logic_vars
unfolding logic_var_at
logic_var_exact = record {
  again = λ x rest w f o. logic_var_again x rest w f;
  takes = made_takes logic_vars [] (λ x. logic x.0 x.1) (both_exact logic_name_exact sort_exact)
      (λ x w. refl) (λ x w. w.0) (λ x f. f.0) (λ x w. refl);
}

-- ---- lists

counted_again : {A : Type 0} {r : Read A} {C : Spelling A} → Exact r C → (xs : List A)
    (rest : List ℕ) → Each C.Writes xs → Each C.Fits xs → list_all C.words xs ≡ true
    → counted r (length xs) (all_bytes C.bytes xs ++ rest) ≡ Some (xs, rest)
unfolding counted
counted_again E [] rest w f o = refl
counted_again {r = r} {C = C} E (x ∷ xs) rest w f o =
    let own = both_true (C.words x) (list_all C.words xs) o in
    ap (counted r (suc (length xs))) (append_assoc (C.bytes x) (all_bytes C.bytes xs) rest)
    ∙ rw (
      E.again x (all_bytes C.bytes xs ++ rest) w.0 f.0 own.0,
      counted_again E xs rest w.1 f.1 own.1,
    ) refl

-- so many were taken
abbrev TookAll : {A : Type 0} → Spelling A → ℕ → List ℕ → List A → List ℕ → Type 0
TookAll C n bs xs rest =
    (bs ≡ all_bytes C.bytes xs ++ rest) × (length xs ≡ n) × Each C.Writes xs × Each C.Fits xs
    × (list_all C.words xs ≡ true)

counted_takes : {A : Type 0} {r : Read A} {C : Spelling A} → Exact r C → (n : ℕ) (bs : List ℕ)
    (xs : List A) (rest : List ℕ) → counted r n bs ≡ Some (xs, rest) → TookAll C n bs xs rest
unfolding counted
counted_takes {A} {C = C} E zero bs xs rest e =
    let d = parts [] xs bs rest e in
    subst (λ (z : List A). TookAll C 0 bs z rest) d.0 (d.1, refl, tt, tt, refl)
counted_takes {A} {r} {C} E (suc n) bs xs rest e =
    let a = bind_some (r bs) (λ (x : A × List ℕ). counted r n x.1 >>= λ y. Some (x.0 ∷ y.0, y.1))
    (xs, rest) e in
    let b = bind_some (counted r n a.0.1) (λ (y : List A × List ℕ). Some (a.0.0 ∷ y.0, y.1))
    (xs, rest) a.2 in
    let t = E.takes bs a.0.0 a.0.1 a.1 in
    let u = counted_takes E n a.0.1 b.0.0 b.0.1 b.1 in
    let d = parts (a.0.0 ∷ b.0.0) xs b.0.1 rest b.2 in
    let one = C.bytes a.0.0 in
    let others = all_bytes C.bytes b.0.0 in
    let cut : bs ≡ (one ++ others) ++ b.0.1 = t.0 ∙ ap (λ (z : List ℕ). one ++ z) u.0
    ∙ sym (append_assoc one others b.0.1) in
    let moved : bs ≡ (one ++ others) ++ rest = cut
    ∙ ap (λ (z : List ℕ). (one ++ others) ++ z) d.1 in
    subst (λ (z : List A). TookAll C (suc n) bs z rest) d.0
    (moved, ap suc u.1, (t.1, u.2), (t.2, u.3), are_true (C.words a.0.0) _ t.3 u.4)

abbrev pub lists : {A : Type 0} → Spelling A → Spelling (List A)
lists C = record {
  bytes = list_bytes C.bytes;
  Writes = Each C.Writes;
  Fits = IsList C.Fits;
  words = list_all C.words;
}

pub listed_exact : {A : Type 0} {r : Read A} {C : Spelling A} → Exact r C
    → Exact (listed r) (lists C)
unfolding listed
listed_exact {A} {r} {C} E =
    let N = number_exact Always (λ n f. tt) in
    record {
      again = λ xs rest w f o.
          let front : number_at (list_bytes C.bytes xs ++ rest)
          ≡ Some (length xs, all_bytes C.bytes xs ++ rest) =
          ap number_at (append_assoc (number_bytes (length xs)) (all_bytes C.bytes xs) rest)
          ∙ N.again (length xs) (all_bytes C.bytes xs ++ rest) tt f.0 refl in
          rw front (counted_again E xs rest w f.1 o);
      takes = λ bs xs rest e.
          let n = bind_some (number_at bs) (λ (n : ℕ × List ℕ). counted r n.0 n.1) (xs, rest) e in
          let t = N.takes bs n.0.0 n.0.1 n.1 in
          let u = counted_takes E n.0.0 n.0.1 xs rest n.2 in
          let items = all_bytes C.bytes xs in
          let cut : bs ≡ list_bytes C.bytes xs ++ rest = t.0
          ∙ ap (λ (z : List ℕ). number_bytes n.0.0 ++ z) u.0
          ∙ sym (append_assoc (number_bytes n.0.0) items rest)
          ∙ ap (λ (k : ℕ). (number_bytes k ++ items) ++ rest) (sym u.1) in
          (cut, u.2, (omega (arith, t.2, u.1), u.3), u.4);
    }
