-- What the matches of a subcommand have of its options.
use Rattle.std.proofs.Common.{◌≡◌, ◌⊎◌, ℕ, refl, sym, subst, ap, arith, ◌∙◌, List, Option, Some, None, Ok}
use Rattle.std.specs.Prelude.{codes, slice_index, Result, Err}
use Rattle.clap.specs.Words.{Row, Text, first_of, first_value, one_of, ReadsOne, rows_of}
use Rattle.clap.specs.declared.parser.matches.Found.{Found}
use Rattle.clap.proofs.WalkLemmas.{first_value-rows}
use Rattle.pool_app.specs.Line.{IsNoJob, IsNoPort, Lacks}

-- the text of an option is that of its row
pub value : (f : Found) (id : Text) (v : Option Text) → v ≡ first_value f id → first_of id (rows_of f) ≡ v
value f id v is = sym (first_value-rows f id) ∙ sym is

-- a number that was read is that of a text
pub read_text : {E : Type 0} (o : Option Text) (gives : List ℕ → Result ℕ E → Type 0) (r : Option ℕ) (n : ℕ)
    → (o ≡ None → r ≡ None) → ((t : List ℕ) → o ≡ Some t → ReadsOne gives t r) → r ≡ Some n → (t : List ℕ) × (o ≡ Some t) × gives t (Ok n)
read_text None gives r n none value is = absurd (let h = none refl in cc)
read_text (Some t) gives r n none value is = (t, refl, subst (ReadsOne gives t) is (value t refl))

-- a text that isn't read as a number is no port
pub unread_text : {E : Type 0} (gives : List ℕ → Result ℕ E → Type 0) → ((t : List ℕ) (e : E) → gives t (Err e) → IsNoPort t) → (o : Option Text) (r : Option ℕ)
    → ((t : List ℕ) → o ≡ Some t → ReadsOne gives t r) → r ≡ None → (t : Text) → o ≡ Some t → IsNoPort t
unread_text gives means o r value is t has =
    let read = subst (ReadsOne gives t) is (value t has) in
    means t read.0 read.1

abbrev first_byte : Text → ℕ
first_byte text = slice_index text 0

-- `serve`, `check` and `stub` without one of their options are no job
pub serve_without : (options : List Row) → Lacks (codes "ini") options → IsNoJob (codes "serve") options
serve_without options lacks = ((λ e. cc), (λ e. lacks), (λ e. absurd (omega (arith, ap first_byte e))), (λ e. absurd (cc)))

pub check_without : (options : List Row) → Lacks (codes "ini") options → IsNoJob (codes "check") options
check_without options lacks = ((λ e. cc), (λ e. absurd (omega (arith, ap first_byte e))), (λ e. lacks), (λ e. absurd (cc)))

pub stub_without : (options : List Row) → Lacks (codes "catalogue") options ⊎ ((t : Text) → one_of (codes "port") options ≡ Some t → IsNoPort t)
    → IsNoJob (codes "stub") options
stub_without options lacks = ((λ e. cc), (λ e. absurd (cc)), (λ e. absurd (cc)), (λ e. lacks))
