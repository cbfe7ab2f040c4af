-- What the words after the program's name ask for.
use Rattle.model_limits.specs.Limits.{standard_limits}
use Rattle.std.specs.Prelude.{ℕ, suc, nat_le, ◌&&◌, List, [], ◌∷◌, Option, Some, None, cond, option_map, bytes_eq, codes}
use Rattle.std.specs.Str.Parse.{digits_value}
use Rattle.model_text.specs.Tokens.{is_number}
use Rattle.model_generator.specs.Made.{most_makers}

-- what is shown of a run on a document: how it comes out; or also what each of its steps changes;
-- or also whether requires holds before it, and ensures at its end
pub data RunForm : Type 0 where
  only_outcome with_changes with_verdicts : RunForm

-- a request, with the words that it names
pub data Request : Type 0 where
  -- a file: it is checked, or its gaps are filled
  check fill : List ℕ → Request
  -- a file and a procedure, whose weakest precondition is printed
  wp : List ℕ → List ℕ → Request
  -- what is shown of a run, a file, a procedure, a document, the fuel and the arguments
  run : RunForm → List ℕ → List ℕ → List ℕ → ℕ → List (List ℕ) → Request
  -- the number of procedures of a generated theory: it is printed, or tried
  make trial : ℕ → Request

-- a decimal number of at most so much: digits without a sign, with no leading zero but in `0`
abbrev pub decimal_of : ℕ → List ℕ → Option ℕ
decimal_of most [] = None
decimal_of most (first ∷ rest) =
    cond (is_number (first ∷ rest) && nat_le (digits_value 10 (first ∷ rest)) most)
    (Some (digits_value 10 (first ∷ rest))) None

-- the forms `check FILE` and `fill FILE`
abbrev pub file_of : (List ℕ → Request) → List (List ℕ) → Option Request
file_of form (file ∷ []) = Some (form file)
file_of form words = None

-- the form `wp FILE PROC`
abbrev pub wp_of : List (List ℕ) → Option Request
wp_of (file ∷ procedure ∷ []) = Some (wp file procedure)
wp_of words = None

-- the forms `run FILE PROC DOC FUEL ARG*`, `trace ..` and `watch ..`
abbrev pub run_of : RunForm → List (List ℕ) → Option Request
run_of form (file ∷ procedure ∷ document ∷ fuel ∷ arguments) =
    option_map (λ number. run form file procedure document number arguments)
    (decimal_of standard_limits.fuel fuel)
run_of form words = None

-- the number, where it isn't 0
abbrev pub above_zero : Option ℕ → Option ℕ
above_zero (Some (suc n)) = Some (suc n)
above_zero number = None

-- the forms `make N` and `trial N`
abbrev pub count_of : (ℕ → Request) → List (List ℕ) → Option Request
count_of form (count ∷ []) = option_map form (above_zero (decimal_of most_makers count))
count_of form words = None

-- THE READING of the words; nothing else has one
abbrev pub reading_of : List (List ℕ) → Option Request
reading_of [] = None
reading_of (command ∷ words) = cond (bytes_eq command (codes "check")) (file_of check words)
    (cond (bytes_eq command (codes "run")) (run_of only_outcome words)
    (cond (bytes_eq command (codes "fill")) (file_of fill words)
    (cond (bytes_eq command (codes "make")) (count_of make words)
    (cond (bytes_eq command (codes "trial")) (count_of trial words)
    (cond (bytes_eq command (codes "wp")) (wp_of words)
    (cond (bytes_eq command (codes "trace")) (run_of with_changes words)
    (cond (bytes_eq command (codes "watch")) (run_of with_verdicts words) None)))))))
