-- The text that `make N` prints: a theory of N procedures, each of which makes one node, with their
-- proofs. The language's own.
use Rattle.std.specs.Prelude.{ℕ, zero, suc, ◌+◌, ◌==◌, cond, List, [], ◌∷◌, ◌++◌, codes}
use Rattle.std.specs.Fmt.{decimal}
use Rattle.std.specs.List.{flat_map}

-- the most procedures that may be asked for
abbrev pub most_makers : ℕ
most_makers = 200

-- A PROCEDURE and its proof, with a K wherever its number stands
abbrev pub maker_template : List ℕ
maker_template =
    codes "proc pK ( ) returns ( ) sort g\n"
    ++ codes "requires 0g\n"
    ++ codes "ensures ( exists $n . ( exists $m . [ \"tK\" # $n [ 0f ] % $m ] ) )\n"
    ++ codes "body local x : node { x := createNode ( \"tK\" ) }\n"
    ++ codes "proof\n"
    ++ codes "step 1 by create ( ) : pre ( 0g and \"tK\" = \"tK\" ) "
    ++ codes "do x := createNode ( \"tK\" ) post ( exists $m . [ \"tK\" # x [ 0f ] % $m ] ) "
    ++ codes "at g ;\n"
    ++ codes "step 2 by and_left ( ) : ( 0g and x = null ) entails 0g at g ;\n"
    ++ codes "step 3 by eq_refl ( ) : ( 0g and x = null ) entails \"tK\" = \"tK\" at g ;\n"
    ++ codes "step 4 by and_in ( 2 , 3 ) : ( 0g and x = null ) "
    ++ codes "entails ( 0g and \"tK\" = \"tK\" ) at g ;\n"
    ++ codes "step 5 by exists_in ( ) with ( x ) : ( exists $m . [ \"tK\" # x [ 0f ] % $m ] ) "
    ++ codes "entails ( exists $n . ( exists $m . [ \"tK\" # $n [ 0f ] % $m ] ) ) at g ;\n"
    ++ codes "step 6 by consequence ( 4 , 1 , 5 ) : pre ( 0g and x = null ) "
    ++ codes "do x := createNode ( \"tK\" ) "
    ++ codes "post ( exists $n . ( exists $m . [ \"tK\" # $n [ 0f ] % $m ] ) ) at g ;\n"
    ++ codes "step 7 by seq ( 6 ) : pre ( 0g and x = null ) do { x := createNode ( \"tK\" ) } "
    ++ codes "post ( exists $n . ( exists $m . [ \"tK\" # $n [ 0f ] % $m ] ) ) at g ;\n"
    ++ codes "step 8 by local ( 7 ) : pre 0g do local x : node { x := createNode ( \"tK\" ) } "
    ++ codes "post ( exists $n . ( exists $m . [ \"tK\" # $n [ 0f ] % $m ] ) ) at g ;\n"
    ++ codes "end\n"

-- the code of K
abbrev pub letter_k : ℕ
letter_k = 75

-- a text with the number in place of each K
abbrev pub numbered : ℕ → List ℕ → List ℕ
numbered number = flat_map (λ byte. cond (byte == letter_k) (decimal number) (byte ∷ []))

-- so many procedures, of which the first has this number
abbrev pub makers_text : ℕ → ℕ → List ℕ
makers_text first zero = []
makers_text first (suc n) = numbered first maker_template ++ makers_text (first + 1) n

-- THE TEXT for N
abbrev pub made_text : ℕ → List ℕ
made_text n = codes "domlogic 1\nlogic list $m ;\nlogic node $n ;\n" ++ makers_text 1 n
