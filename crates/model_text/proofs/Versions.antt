-- What is seen of a file in its version, part by part.
use Rattle.std.proofs.Common.{◌≡◌, ℕ, Bool, true, false, cond, ◌==◌, List, [], ◌∷◌, ◌++◌, length, refl, sym, ap, ◌∙◌, map, codes, bytes_eq}
use Rattle.std.proofs.lemmas.List.{length-map, map-append}
use Rattle.model_text.specs.Lexemes.{Lexeme, terminal, step_word, name_lexeme, logic_lexeme, number_lexeme, literal_lexeme, bad_lexeme}
use Rattle.model_text.specs.Versions.{insert_word, reserving, seen_in, in_its_version}
use Rattle.model_text.proofs.Usual.{AreUsual, kept}

pub either_same : {A : Type 0} (b : Bool) (x : A) → cond b x x ≡ x
either_same true x = refl
either_same false x = refl

-- as many lexemes
pub seen_length : (version : ℕ) (lexemes : List Lexeme) → length (seen_in version lexemes)
    ≡ length lexemes
seen_length version lexemes = by_test (version == 2)
  where
    by_test : (b : Bool) → length (cond b (map reserving lexemes) lexemes) ≡ length lexemes
    by_test true = length-map lexemes reserving
    by_test false = refl

pub version_length : (lexemes : List Lexeme) → length (in_its_version lexemes) ≡ length lexemes
version_length (first ∷ number_lexeme version ∷ rest) =
    seen_length version (first ∷ number_lexeme version ∷ rest)
version_length lexemes = refl

-- of two lists
pub seen_append : (version : ℕ) (front rest : List Lexeme)
    → seen_in version (front ++ rest) ≡ seen_in version front ++ seen_in version rest
seen_append version front rest = by_test (version == 2)
  where
    by_test : (b : Bool) → cond b (map reserving (front ++ rest)) (front ++ rest)
        ≡ cond b (map reserving front) front ++ cond b (map reserving rest) rest
    by_test true = map-append reserving front rest
    by_test false = refl

-- of the first of them
pub seen_first : (version : ℕ) (x : Lexeme) (rest : List Lexeme)
    → seen_in version (x ∷ rest) ≡ seen_in version (x ∷ []) ++ seen_in version rest
seen_first version x rest = seen_append version (x ∷ []) rest

-- a number is seen as it is, and is seen where it is
pub number_kept : (version n : ℕ) (x : Lexeme) (others : List Lexeme)
    → seen_in version (x ∷ []) ≡ number_lexeme n ∷ others → x ≡ number_lexeme n
number_kept version n x others = by_test (version == 2) x
  where
    by_word : (b : Bool) (word : List ℕ) → cond b (terminal word) (name_lexeme word) ∷ []
        ≡ number_lexeme n ∷ others → name_lexeme word ≡ number_lexeme n
    by_word true word e = absurd cc
    by_word false word e = absurd cc

    by_test : (b : Bool) (x : Lexeme) → cond b (map reserving (x ∷ [])) (x ∷ [])
        ≡ number_lexeme n ∷ others → x ≡ number_lexeme n
    by_test false x e = cc
    by_test true (name_lexeme word) e = by_word (bytes_eq word insert_word) word e
    by_test true (terminal text) e = absurd cc
    by_test true (step_word line) e = absurd cc
    by_test true (logic_lexeme name) e = absurd cc
    by_test true (number_lexeme m) e = cc
    by_test true (literal_lexeme text) e = absurd cc
    by_test true bad_lexeme e = absurd cc

-- the first word of a file
abbrev pub domlogic : Lexeme
domlogic = terminal (codes "domlogic")

-- is seen as it is in every version, and is seen where it is
pub domlogic_kept : (version : ℕ) (x : Lexeme) (others : List Lexeme)
    → seen_in version (x ∷ []) ≡ domlogic ∷ others → x ≡ domlogic
domlogic_kept version x others = by_test (version == 2) x
  where
    by_word : (b : Bool) (word : List ℕ) → bytes_eq word insert_word ≡ b
        → cond b (terminal word) (name_lexeme word) ∷ [] ≡ domlogic ∷ others
        → name_lexeme word ≡ domlogic
    by_word true word is e =
        let same : word ≡ codes "domlogic" = cc in
        absurd (let other : bytes_eq (codes "domlogic") insert_word ≡ true =
        sym (ap (λ (z : List ℕ). bytes_eq z insert_word) same) ∙ is in cc)
    by_word false word is e = absurd cc

    by_test : (b : Bool) (x : Lexeme) → cond b (map reserving (x ∷ [])) (x ∷ [])
        ≡ domlogic ∷ others → x ≡ domlogic
    by_test false x e = cc
    by_test true (name_lexeme word) e = by_word (bytes_eq word insert_word) word refl e
    by_test true (terminal text) e = cc
    by_test true (step_word line) e = absurd cc
    by_test true (logic_lexeme name) e = absurd cc
    by_test true (number_lexeme m) e = absurd cc
    by_test true (literal_lexeme text) e = absurd cc
    by_test true bad_lexeme e = absurd cc

-- the number behind the first lexeme decides
second_kept : (m : ℕ) (x : Lexeme) (rest : List Lexeme) (first : Lexeme) (n : ℕ)
    (others : List Lexeme) → seen_in m (x ∷ number_lexeme m ∷ rest)
    ≡ first ∷ number_lexeme n ∷ others → m ≡ n
second_kept m x rest first n others = by_test (m == 2)
  where
    by_test : (b : Bool) → cond b (map reserving (x ∷ number_lexeme m ∷ rest))
        (x ∷ number_lexeme m ∷ rest) ≡ first ∷ number_lexeme n ∷ others → m ≡ n
    by_test true e = cc
    by_test false e = cc

pub in_version_of : (lexemes : List Lexeme) (first : Lexeme) (n : ℕ) (others : List Lexeme)
    → in_its_version lexemes ≡ first ∷ number_lexeme n ∷ others
    → in_its_version lexemes ≡ seen_in n lexemes
in_version_of [] first n others e = absurd cc
in_version_of (x ∷ []) first n others e = absurd cc
in_version_of (x ∷ number_lexeme m ∷ rest) first n others e =
    ap (λ (z : ℕ). seen_in z (x ∷ number_lexeme m ∷ rest)) (second_kept m x rest first n others e)
in_version_of (x ∷ terminal text ∷ rest) first n others e = absurd cc
in_version_of (x ∷ step_word line ∷ rest) first n others e = absurd cc
in_version_of (x ∷ name_lexeme name ∷ rest) first n others e = absurd cc
in_version_of (x ∷ logic_lexeme name ∷ rest) first n others e = absurd cc
in_version_of (x ∷ literal_lexeme text ∷ rest) first n others e = absurd cc
in_version_of (x ∷ bad_lexeme ∷ rest) first n others e = absurd cc

-- the version that the lexemes are seen in, 1 where they say none
abbrev pub version_in : List Lexeme → ℕ
version_in (x ∷ number_lexeme n ∷ rest) = n
version_in lexemes = 1

pub seen_so : (lexemes : List Lexeme)
    → in_its_version lexemes ≡ seen_in (version_in lexemes) lexemes
seen_so [] = refl
seen_so (x ∷ []) = refl
seen_so (x ∷ number_lexeme n ∷ rest) = refl
seen_so (x ∷ terminal text ∷ rest) = refl
seen_so (x ∷ step_word line ∷ rest) = refl
seen_so (x ∷ name_lexeme name ∷ rest) = refl
seen_so (x ∷ logic_lexeme name ∷ rest) = refl
seen_so (x ∷ literal_lexeme text ∷ rest) = refl
seen_so (x ∷ bad_lexeme ∷ rest) = refl

-- A FRONT of some lexemes with others behind it that make it a file of a version is seen as it is
-- in those, and the others as in that version.
pub front_seen : (front tail others : List Lexeme) (n : ℕ) (rest : List Lexeme)
    → in_its_version (front ++ others) ≡ domlogic ∷ number_lexeme n ∷ rest
    → in_its_version (front ++ others)
    ≡ seen_in (version_in (front ++ tail)) front ++ seen_in n others
front_seen [] tail others n rest e =
    in_version_of others domlogic n rest e
    ∙ ap (λ (z : List Lexeme). z ++ seen_in n others)
    (sym (either_same (version_in tail == 2) []))
front_seen (x ∷ []) tail others n rest e =
    let all = in_version_of (x ∷ others) domlogic n rest e ∙ seen_first n x others in
    let first : x ≡ domlogic =
    domlogic_first n x others (sym (in_version_of (x ∷ others) domlogic n rest e) ∙ e) in
    let here : seen_in n (x ∷ []) ≡ seen_in (version_in (x ∷ tail)) (x ∷ []) =
    (λ j. seen_in n (first j ∷ []))
    ∙ either_same (n == 2) (domlogic ∷ [])
    ∙ sym (either_same (version_in (x ∷ tail) == 2) (domlogic ∷ []))
    ∙ (λ j. seen_in (version_in (x ∷ tail)) (sym first j ∷ [])) in
    all ∙ ap (λ (z : List Lexeme). z ++ seen_in n others) here
  where
    domlogic_first : (n : ℕ) (x : Lexeme) (others : List Lexeme)
        → seen_in n (x ∷ others) ≡ domlogic ∷ number_lexeme n ∷ rest → x ≡ domlogic
    domlogic_first n x others k = domlogic_kept n x [] (head_same n x others k)
      where
        head_same : (n : ℕ) (x : Lexeme) (others : List Lexeme)
            → seen_in n (x ∷ others) ≡ domlogic ∷ number_lexeme n ∷ rest
            → seen_in n (x ∷ []) ≡ domlogic ∷ []
        head_same n x others = by_test (n == 2)
          where
            by_test : (b : Bool) → cond b (map reserving (x ∷ others)) (x ∷ others)
                ≡ domlogic ∷ number_lexeme n ∷ rest
                → cond b (map reserving (x ∷ [])) (x ∷ []) ≡ domlogic ∷ []
            by_test true k = cc
            by_test false k = cc
front_seen (x ∷ y ∷ front) tail others n rest e =
    let all = in_version_of (x ∷ y ∷ (front ++ others)) domlogic n rest e in
    let second : y ≡ number_lexeme n =
    number_kept n n y [] (second_same n x y (front ++ others) (sym all ∙ e)) in
    let version : n ≡ version_in (x ∷ y ∷ (front ++ tail)) =
    sym (λ j. version_in (x ∷ second j ∷ (front ++ tail))) in
    all ∙ seen_append n (x ∷ y ∷ front) others
    ∙ ap (λ (z : ℕ). seen_in z (x ∷ y ∷ front) ++ seen_in n others) version
  where
    second_same : (n : ℕ) (x y : Lexeme) (others : List Lexeme)
        → seen_in n (x ∷ y ∷ others) ≡ domlogic ∷ number_lexeme n ∷ rest
        → seen_in n (y ∷ []) ≡ number_lexeme n ∷ []
    second_same n x y others = by_test (n == 2)
      where
        by_test : (b : Bool) → cond b (map reserving (x ∷ y ∷ others)) (x ∷ y ∷ others)
            ≡ domlogic ∷ number_lexeme n ∷ rest
            → cond b (map reserving (y ∷ [])) (y ∷ []) ≡ number_lexeme n ∷ []
        by_test true k = cc
        by_test false k = cc

-- one lexeme before others
abbrev pub one_seen : ℕ → Lexeme → Lexeme
one_seen version x = cond (version == 2) (reserving x) x

pub seen_behind : (version : ℕ) (x : Lexeme) (rest : List Lexeme)
    → seen_in version (x ∷ rest) ≡ one_seen version x ∷ seen_in version rest
seen_behind version x rest = by_test (version == 2)
  where
    by_test : (b : Bool) → cond b (map reserving (x ∷ rest)) (x ∷ rest)
        ≡ cond b (reserving x) x ∷ cond b (map reserving rest) rest
    by_test true = refl
    by_test false = refl

-- usual lexemes are seen as they are
pub usual_seen : (version : ℕ) (lexemes : List Lexeme) → AreUsual lexemes
    → seen_in version lexemes ≡ lexemes
usual_seen version lexemes h = by_test (version == 2)
  where
    by_test : (b : Bool) → cond b (map reserving lexemes) lexemes ≡ lexemes
    by_test true = kept lexemes h
    by_test false = refl

-- A FRONT of some lexemes, as it is seen in them, with usual lexemes behind it that make it a file,
-- is what is seen of the front with those behind it.
pub front_again : (front tail more : List Lexeme) (m : ℕ) (rest : List Lexeme) → AreUsual more
    → seen_in (version_in (front ++ tail)) front ++ more ≡ domlogic ∷ number_lexeme m ∷ rest
    → in_its_version (front ++ more) ≡ seen_in (version_in (front ++ tail)) front ++ more
front_again [] tail more m rest usual e =
    let none : seen_in (version_in tail) [] ≡ [] = either_same (version_in tail == 2) [] in
    let is : more ≡ domlogic ∷ number_lexeme m ∷ rest =
    sym (ap (λ (z : List Lexeme). z ++ more) none) ∙ e in
    ap in_its_version is
    ∙ ap (seen_in m) (sym is) ∙ usual_seen m more usual
    ∙ sym (ap (λ (z : List Lexeme). z ++ more) none)
front_again (x ∷ []) tail more m rest usual e =
    let v : ℕ = version_in (x ∷ tail) in
    let split : one_seen v x ∷ more ≡ domlogic ∷ number_lexeme m ∷ rest =
    sym (ap (λ (z : List Lexeme). z ++ more) (seen_behind v x [] ∙ one_none v x)) ∙ e in
    let is : more ≡ number_lexeme m ∷ rest = cc in
    let first : one_seen v x ≡ domlogic = cc in
    let same : x ≡ domlogic = domlogic_kept v x [] (seen_behind v x [] ∙ one_none v x
    ∙ (λ j. first j ∷ [])) in
    (λ j. in_its_version (x ∷ is j))
    ∙ (λ j. seen_in m (x ∷ sym is j))
    ∙ seen_first m x more
    ∙ (λ j. alone m v x same j ++ usual_seen m more usual j)
  where
    one_none : (v : ℕ) (x : Lexeme) → one_seen v x ∷ seen_in v [] ≡ one_seen v x ∷ []
    one_none v x = ap (λ (z : List Lexeme). one_seen v x ∷ z) (either_same (v == 2) [])

    alone : (m v : ℕ) (x : Lexeme) → x ≡ domlogic → seen_in m (x ∷ []) ≡ seen_in v (x ∷ [])
    alone m v x same =
        (λ j. seen_in m (same j ∷ [])) ∙ either_same (m == 2) (domlogic ∷ [])
        ∙ sym (either_same (v == 2) (domlogic ∷ [])) ∙ (λ j. seen_in v (sym same j ∷ []))
front_again (x ∷ y ∷ front) tail more m rest usual e =
    let v : ℕ = version_in (x ∷ y ∷ (front ++ tail)) in
    let whole : one_seen v x ∷ one_seen v y ∷ (seen_in v front ++ more)
    ≡ domlogic ∷ number_lexeme m ∷ rest =
    sym (ap (λ (z : List Lexeme). z ++ more) (seen_behind v x (y ∷ front)
    ∙ ap (λ (z : List Lexeme). one_seen v x ∷ z) (seen_behind v y front))) ∙ e in
    let second : one_seen v y ≡ number_lexeme m = cc in
    let same : y ≡ number_lexeme m =
    number_kept v m y [] (seen_behind v y [] ∙ one_none v y ∙ (λ j. second j ∷ [])) in
    let version : v ≡ m = λ j. version_in (x ∷ same j ∷ (front ++ tail)) in
    (λ j. in_its_version (x ∷ same j ∷ (front ++ more)))
    ∙ (λ j. seen_in m (x ∷ sym same j ∷ (front ++ more)))
    ∙ seen_append m (x ∷ y ∷ front) more
    ∙ (λ j. seen_in (sym version j) (x ∷ y ∷ front) ++ usual_seen m more usual j)
  where
    one_none : (v : ℕ) (x : Lexeme) → one_seen v x ∷ seen_in v [] ≡ one_seen v x ∷ []
    one_none v x = ap (λ (z : List Lexeme). one_seen v x ∷ z) (either_same (v == 2) [])
