-- Needn't be believed: what is read from a book, told or not, and what a reply says of the books.
use Rattle.std.specs.Prelude.{◌≡◌, ℕ, List, Option, Some, None}
use Rattle.outside_io.specs.Causes.{Told}
use Rattle.model_filling.specs.Offers.{Voice}
use Rattle.model_answers.specs.Words.{Request, check, fill, wp, run, make, trial}
use Rattle.run_trace.specs.Listeners.{Listener}
use Rattle.domcheck_core.specs.Answers.{Books, CheckAnswer, FillAnswer, WpAnswer, grove_answer, RunAnswer, IsAnswer}
use Rattle.domcheck_core.specs.declared.status.Status.{Status}

-- some bytes have the property, and where the book is told they are its bytes
abbrev pub ReadFrom : Option (List ℕ) → (List ℕ → Type 0) → Type 0
ReadFrom book Has = (bytes : List ℕ) × Has bytes × Told book (λ b. bytes ≡ b)

-- the answer on the books that were read, where these fillers fill gaps and these observers are
-- told
abbrev pub IsReply : List Voice → List Listener → Option Request → Books → Status → List ℕ
    → Type 0
IsReply voices listeners None books s output = IsAnswer voices listeners books None s output
IsReply voices listeners (Some (check file)) books s output =
    ReadFrom (books file) (λ bytes. CheckAnswer bytes s output)
IsReply voices listeners (Some (fill file)) books s output =
    ReadFrom (books file) (λ bytes. FillAnswer voices bytes s output)
IsReply voices listeners (Some (wp file procedure)) books s output =
    ReadFrom (books file) (λ bytes. WpAnswer procedure bytes s output)
IsReply voices listeners (Some (run form file procedure document fuel arguments)) books s output =
    ReadFrom (books file) (λ bytes. ReadFrom (books document)
    (λ read. RunAnswer (grove_answer form listeners) (Some read) bytes procedure fuel arguments s
    output))
IsReply voices listeners (Some (make n)) books s output =
    IsAnswer voices listeners books (Some (make n)) s output
IsReply voices listeners (Some (trial n)) books s output =
    IsAnswer voices listeners books (Some (trial n)) s output
