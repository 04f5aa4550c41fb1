-- The rows of the C functions hold, and are their own contracts. What is told of a plan that was read is what the
-- library's row says of it; a refused read is told as it is. So all that is lent is then 0, or as it was.
-- Assumes nothing.
use mathlib.Core.Path.{◌≡◌, refl, sym, ap, subst, ◌∙◌}
use mathlib.Core.Bool.{true, false}
use mathlib.Core.List.{List, [], ◌∷◌}
use Prim.Native.Nat.{ℕ}
use native.Mathlib.Omega.{arith}
use lib.ListN.{length, get_or, drop, length-drop}
use lib.Seq.{take_all, drop-cons}
use Rattle.std.specs.Prelude.{Result, Option, None}
use Rattle.std.specs.declared.result.Result.TheVariants as result
use Rattle.records.specs.declared.refusal.At.{At}
use Rattle.records.specs.declared.refusal.Refusal.{Refusal}
use Rattle.records.specs.First.{Outcome, refuse, number_of, offset_of, among, Gives}
use Rattle.records.specs.Said.{Said, said_number, said_or}
use Rattle.records.specs.Entry.{Tight, says, contract, Tied}
use Rattle.records.specs.Pieces.{part}
use Rattle.records.specs.Put.{Put}
use Rattle.records.proofs.Checks.{refused_why}
use Rattle.records.proofs.Refusals.{all_among, gives_more}
use Rattle.records.proofs.Entry.{both, tie}
use Rattle.plan.specs.declared.Plan.{Plan}
use Rattle.stream.specs.Read.{read_of}
use Rattle.stream.specs.Entries.{read_numbers}
use Rattle.stream.proofs.Answers.{reading_refused}
use Rattle.stream.proofs.Refusals.{read_gives, copy_gives}
use Rattle.stream.proofs.Entries.{rewritten_tight}
use Rattle.figures.proofs.Entries.{figure_tight, wait_tight, default_tight}
use Rattle.judge.proofs.Entries.{judge_tight, verdict_tight}
use Rattle.search.specs.Search.{search_check}
use Rattle.search.specs.Entries.{search_numbers}
use Rattle.search.proofs.Refusals.{search_gives}
use Rattle.search.proofs.Entries.{search_tight}
use Rattle.arbiter.specs.declared.Stepped.{Stepped}
use Rattle.arbiter.specs.Step.{step_check, refused_step}
use Rattle.arbiter.specs.Entries.{step_numbers}
use Rattle.arbiter.proofs.Refusals.{step_gives}
use Rattle.arbiter.proofs.Entries.{step_tight}
use Rattle.listing.specs.Entries.{report_entry, homing_entry}
use Rattle.capi.specs.Calls.{ToldRead, OfRead, Told, ToldWrite, emptied, IsSearchedFor, found_stream, ToldSearch}
use Rattle.capi.specs.Calls.{record_in, record_bytes, served_bytes, IsStep, ToldStep}
use Rattle.capi.specs.Entries.{read_and, then_check, read_then, tells, c_read_entry, c_figures_entry, c_wait_entry}
use Rattle.capi.specs.Entries.{c_default_entry, c_judge_entry, c_verdict_entry, c_search_entry, c_write_entry}
use Rattle.capi.specs.Entries.{c_step_entry}
use Rattle.capi.proofs.Laws.{found_none}
use Rattle.capi.proofs.gwelathur_read.Reads as c_read
use Rattle.capi.proofs.gwelathur_figures.Reads as c_figures
use Rattle.capi.proofs.gwelathur_wait.Reads as c_wait
use Rattle.capi.proofs.gwelathur_default_wait.Reads as c_default
use Rattle.capi.proofs.gwelathur_judge.Reads as c_judge
use Rattle.capi.proofs.gwelathur_verdict.Reads as c_verdict
use Rattle.capi.proofs.gwelathur_search.Reads as c_search
use Rattle.capi.proofs.gwelathur_search_whole.Reads as c_whole
use Rattle.capi.proofs.gwelathur_write.Reads as c_write
use Rattle.capi.proofs.gwelathur_step.Reads as c_step
use Rattle.capi.proofs.gwelathur_report.Reads as c_report
use Rattle.capi.proofs.gwelathur_homing.Reads as c_homing

all_three : {A B C : Type 0} {r r' : A × B × C} → r.0 ≡ r'.0 → r.1 ≡ r'.1 → r.2 ≡ r'.2 → r ≡ r'
all_three p q h = λ i. (p i, q i, h i)

-- ---- reading's refusal, or the library's own

read_then_gives : {X : Type 0} (check : Plan → X → Outcome) (ks numbers : List ℕ)
    → ((plan : Plan) (x : X) → Gives ks (check plan x)) → all_among read_numbers numbers ≡ true
    → all_among ks numbers ≡ true → (s : List ℕ) (x : X) → Gives numbers (read_then check s x)
read_then_gives check ks numbers gives low high s x = by (read_of s) refl
  where
    by : (r : Result Plan (At Refusal)) → read_of s ≡ r → Gives numbers (then_check check r x)
    by (result.Ok plan) e = gives_more ks numbers high (check plan x) (gives plan x)
    by (result.Err refused) e =
        gives_more read_numbers numbers low (result.Err refused)
        (subst (Gives read_numbers) (reading_refused s e) (read_gives s))

-- what is said of a reading, where Is says what is said of a plan: there is one answer, its number is that of the first
-- refusal, and it is a refusal where either is
module _ {X A : Type 0} (Is : Plan → X → Said A → Type 0) (check : Plan → X → Outcome) (x : X) where
  heard_once : ((plan : Plan) (x : X) (a b : Said A) → Is plan x a → Is plan x b → a ≡ b)
      → (r : Result Plan (At Refusal)) (a b : Said A) → OfRead (λ plan. Is plan x) r a
      → OfRead (λ plan. Is plan x) r b → a ≡ b
  heard_once once (result.Ok plan) a b h h' = once plan x a b h h'
  heard_once once (result.Err refused) a b h h' = h ∙ sym h'

  heard_number : ((plan : Plan) (x : X) (a : Said A) → Is plan x a → said_number a ≡ number_of (check plan x))
      → (r : Result Plan (At Refusal)) (a : Said A) → OfRead (λ plan. Is plan x) r a
      → said_number a ≡ number_of (then_check check r x)
  heard_number numbered (result.Ok plan) a h = numbered plan x a h
  heard_number numbered (result.Err refused) a h = ap said_number h

  heard_refused : ((plan : Plan) (x : X) (a : Said A) (why : Refusal) (offset : ℕ) → Is plan x a
      → check plan x ≡ refuse why offset → a ≡ result.Err why)
      → (r : Result Plan (At Refusal)) (a : Said A) (why : Refusal) (offset : ℕ)
      → OfRead (λ plan. Is plan x) r a → then_check check r x ≡ refuse why offset → a ≡ result.Err why
  heard_refused stops (result.Ok plan) a why offset h e = stops plan x a why offset h e
  heard_refused stops (result.Err refused) a why offset h e =
      h ∙ ap result.Err (refused_why (result.Err refused) refused.why why offset refl e)

-- ---- questions

-- two answers coincide, so all that is told does; a refusal's values are those of zero
tight_tells : {X A : Type 0} (Is : Plan → X → Said A → Type 0) (check : Plan → X → Outcome) (ks numbers : List ℕ)
    (zero : A) (values : A → List ℕ) {Same : Plan → Plan → Type 0} → Tight (says Same Is check ks)
    → all_among read_numbers numbers ≡ true → all_among ks numbers ≡ true → among 0 numbers ≡ false
    → Tight (tells Is check numbers zero values)
tight_tells Is check ks numbers zero values tight low high nonzero =
    record {
      once = λ s x r r' h h'.
          let e = heard_once Is check x tight.once (read_of s) _ _ h.is h'.is in
          both (h.returned ∙ ap said_number e ∙ sym h'.returned)
          (h.stored ∙ ap (λ a. values (said_or zero a)) e ∙ sym h'.stored);
      number = λ s x r h.
          h.returned ∙ heard_number Is check x tight.number (read_of s) h.answer h.is;
      refused = λ s x r why offset h e.
          let stops = heard_refused Is check x tight.refused (read_of s) h.answer in
          let a = stops why offset h.is e in
          both (h.returned ∙ ap said_number a) (h.stored ∙ ap (λ a. values (said_or zero a)) a);
      numbers = read_then_gives check ks numbers tight.numbers low high;
      nonzero = nonzero;
      unread = λ s t e x r. subst (λ v. Told (λ plan. Is plan x) zero values v r.0 r.1) e;
    }

pub c_figures_tight : Tight c_figures_entry
c_figures_tight = tight_tells _ _ _ _ _ _ figure_tight refl refl refl

pub c_figures_tied : Tied c_figures_entry (contract c_figures.Pre c_figures.Post)
c_figures_tied =
    tie (λ a. a.0.now) (λ a. a.1.0) (λ r z. (r, z.1.1.0.now ∷ z.1.1.1.0.now ∷ [])) (λ κs a. tt)
    (λ κs a r z. refl)

pub c_wait_tight : Tight c_wait_entry
c_wait_tight = tight_tells _ _ _ _ _ _ wait_tight refl refl refl

pub c_wait_tied : Tied c_wait_entry (contract c_wait.Pre c_wait.Post)
c_wait_tied =
    tie (λ a. a.0.now) (λ a. (a.1.0, a.1.1.0)) (λ r z. (r, z.1.1.1.0.now ∷ [])) (λ κs a. tt)
    (λ κs a r z. refl)

pub c_default_tight : Tight c_default_entry
c_default_tight = tight_tells _ _ _ _ _ _ default_tight refl refl refl

pub c_default_tied : Tied c_default_entry (contract c_default.Pre c_default.Post)
c_default_tied =
    tie (λ a. a.0.now) (λ a. a.1.0) (λ r z. (r, z.1.1.0.now ∷ [])) (λ κs a. tt) (λ κs a r z. refl)

pub c_judge_tight : Tight c_judge_entry
c_judge_tight = tight_tells _ _ _ _ _ _ judge_tight refl refl refl

pub c_judge_tied : Tied c_judge_entry (contract c_judge.Pre c_judge.Post)
c_judge_tied =
    tie (λ a. a.0.now) (λ a. tt)
    (λ r z. (r, z.1.0.now ∷ z.1.1.0.now ∷ z.1.1.1.0.now ∷ z.1.1.1.1.0.now ∷ [])) (λ κs a. tt)
    (λ κs a r z. refl)

pub c_verdict_tight : Tight c_verdict_entry
c_verdict_tight = tight_tells _ _ _ _ _ _ verdict_tight refl refl refl

pub c_verdict_tied : Tied c_verdict_entry (contract c_verdict.Pre c_verdict.Post)
c_verdict_tied =
    tie (λ a. a.0.now) (λ a. a.1.0) (λ r z. (r, z.1.1.0.now ∷ [])) (λ κs a. tt) (λ κs a r z. refl)

-- ---- reading and writing

pub c_read_tight : Tight c_read_entry
c_read_tight =
    record {
      once = λ s x r r' h h'. both (h.returned ∙ sym h'.returned) (h.stored ∙ sym h'.stored);
      number = λ s x r h. h.returned;
      refused = λ s x r why offset h e. both (h.returned ∙ ap number_of e) (h.stored ∙ ap offset_of e);
      numbers = λ s x. read_gives s;
      nonzero = refl;
      unread = λ s t e x r. subst (λ v. ToldRead v r.0 r.1) e;
    }

pub c_read_tied : Tied c_read_entry (contract c_read.Pre c_read.Post)
c_read_tied = tie (λ a. a.0.now) (λ a. tt) (λ r z. (r, z.1.0.now)) (λ κs a. tt) (λ κs a r z. refl)

pub c_write_tight : Tight c_write_entry
c_write_tight =
    record {
      once = λ s out r r' h h'.
          let e = rewritten_tight.once s out (h.answer, r.2) (h'.answer, r'.2) h.is h'.is in
          all_three (h.returned ∙ ap (λ a. said_number a.0) e ∙ sym h'.returned)
          (h.stored ∙ ap (λ a. said_or 0 a.0) e ∙ sym h'.stored) (ap (λ a. a.1) e);
      number = λ s out r h. h.returned ∙ rewritten_tight.number s out (h.answer, r.2) h.is;
      refused = λ s out r why offset h e.
          let a = rewritten_tight.refused s out (h.answer, r.2) why offset h.is e in
          all_three (h.returned ∙ ap (λ a. said_number a.0) a) (h.stored ∙ ap (λ a. said_or 0 a.0) a)
          (ap (λ a. a.1) a);
      numbers = λ s out. copy_gives s (length out);
      nonzero = refl;
      unread = λ s t e out r. subst (λ v. ToldWrite v out r.0 r.1 r.2) e;
    }

pub c_write_tied : Tied c_write_entry (contract c_write.Pre c_write.Post)
c_write_tied =
    tie (λ a. a.0.now) (λ a. a.1.0.now) (λ r z. (r, z.1.1.0.now, z.1.0.now)) (λ κs a. tt)
    (λ κs a r z. refl)

-- ---- the search

search_once : (out : List ℕ) (r : Result Plan (At Refusal)) (a b : Said (Option (List ℕ))) → OfRead IsSearchedFor r a
    → OfRead IsSearchedFor r b → a ≡ b
search_once out =
    heard_once (λ plan out. IsSearchedFor plan) (λ plan out. search_check (emptied plan)) out
    (λ plan out. search_tight.once (emptied plan) tt)

search_number : (out : List ℕ) (r : Result Plan (At Refusal)) (a : Said (Option (List ℕ))) → OfRead IsSearchedFor r a
    → said_number a ≡ number_of (then_check (λ plan (out : List ℕ). search_check (emptied plan)) r out)
search_number out =
    heard_number (λ plan out. IsSearchedFor plan) (λ plan out. search_check (emptied plan)) out
    (λ plan out. search_tight.number (emptied plan) tt)

search_refused : (out : List ℕ) (r : Result Plan (At Refusal)) (a : Said (Option (List ℕ))) (why : Refusal) (offset : ℕ)
    → OfRead IsSearchedFor r a
    → then_check (λ plan (out : List ℕ). search_check (emptied plan)) r out ≡ refuse why offset → a ≡ result.Err why
search_refused out =
    heard_refused (λ plan out. IsSearchedFor plan) (λ plan out. search_check (emptied plan)) out
    (λ plan out. search_tight.refused (emptied plan) tt)

pub c_search_tight : Tight c_search_entry
c_search_tight =
    record {
      once = λ s out r r' h h'.
          let e = search_once out (read_of s) h.answer h'.answer h.is h'.is in
          let put : Put out 0 (found_stream (read_of s) (said_or None h.answer)) r'.2 r'.1 =
          subst (λ (a : Said (Option (List ℕ))). Put out 0 (found_stream (read_of s) (said_or None a)) r'.2 r'.1)
          (sym e) h'.put in
          all_three (h.returned ∙ ap said_number e ∙ sym h'.returned) (h.put.place ∙ sym put.place)
          (h.put.stored ∙ sym put.stored);
      number = λ s out r h. h.returned ∙ search_number out (read_of s) h.answer h.is;
      refused = λ s out r why offset h e.
          let a = search_refused out (read_of s) h.answer why offset h.is e in
          let none = ap (λ a. found_stream (read_of s) (said_or None a)) a ∙ found_none (read_of s) in
          let put : Put out 0 [] r.2 r.1 = subst (λ (l : List ℕ). Put out 0 l r.2 r.1) none h.put in
          all_three (h.returned ∙ ap said_number a) put.place put.stored;
      numbers = read_then_gives (λ plan out. search_check (emptied plan)) search_numbers (read_and (16 ∷ []))
          (λ plan out. search_gives (emptied plan)) refl refl;
      nonzero = refl;
      unread = λ s t e out r. subst (λ v. ToldSearch v out r.0 r.1 r.2) e;
    }

pub c_search_tied : Tied c_search_entry (contract c_search.Pre c_search.Post)
c_search_tied =
    tie (λ a. a.0.now) (λ a. a.1.0.now) (λ r z. (r, z.1.1.0.now, z.1.0.now)) (λ κs a. tt)
    (λ κs a r z. refl)

pub c_whole_tied : Tied c_search_entry (contract c_whole.Pre c_whole.Post)
c_whole_tied =
    tie (λ a. a.0.now) (λ a. a.1.0.now) (λ r z. (r, z.1.1.0.now, z.1.0.now)) (λ κs a. tt)
    (λ κs a r z. refl)

-- ---- the step

-- the bytes of a record are the nine that hold it
record_same : (bytes : List ℕ) → length bytes ≡ 9 → record_bytes (record_in bytes) ≡ bytes
unfolding part
record_same bytes long =
    let rest = take_all 8 (drop 1 bytes) (omega (arith, length-drop 1 bytes)) in
    ap (λ (l : List ℕ). get_or bytes 0 0 ∷ l) rest ∙ sym (drop-cons bytes 0 0 (omega arith))

-- what is told of a step that is not refused, or of one that is
abbrev told_step : List ℕ → Said Stepped → Stepped
told_step bytes = said_or (refused_step (record_in bytes))

-- the row of `step`, asked with the bytes of a record and arrivals
abbrev its_check : Plan → List ℕ × List ℕ → Outcome
its_check plan x = step_check plan (record_in x.0).position (length x.1)

step_once : (x : List ℕ × List ℕ) (r : Result Plan (At Refusal)) (a b : Said Stepped)
    → OfRead (IsStep (record_in x.0) x.1) r a → OfRead (IsStep (record_in x.0) x.1) r b → a ≡ b
step_once x =
    heard_once (λ plan x. IsStep (record_in x.0) x.1 plan) its_check x
    (λ plan x. step_tight.once plan (record_in x.0, x.1))

step_number : (x : List ℕ × List ℕ) (r : Result Plan (At Refusal)) (a : Said Stepped)
    → OfRead (IsStep (record_in x.0) x.1) r a → said_number a ≡ number_of (then_check its_check r x)
step_number x =
    heard_number (λ plan x. IsStep (record_in x.0) x.1 plan) its_check x
    (λ plan x. step_tight.number plan (record_in x.0, x.1))

step_refused : (x : List ℕ × List ℕ) (r : Result Plan (At Refusal)) (a : Said Stepped) (why : Refusal) (offset : ℕ)
    → OfRead (IsStep (record_in x.0) x.1) r a → then_check its_check r x ≡ refuse why offset → a ≡ result.Err why
step_refused x =
    heard_refused (λ plan x. IsStep (record_in x.0) x.1 plan) its_check x
    (λ plan x. step_tight.refused plan (record_in x.0, x.1))

pub c_step_tight : Tight c_step_entry
c_step_tight =
    record {
      once = λ s x r r' h h'.
          let e = step_once x (read_of s) h.said h'.said h.is h'.is in
          all_three (h.returned ∙ ap said_number e ∙ sym h'.returned)
          (h.kept ∙ ap (λ a. record_bytes (told_step x.0 a).next) e ∙ sym h'.kept)
          (h.stored ∙ ap (λ a. served_bytes (told_step x.0 a).served) e ∙ sym h'.stored);
      number = λ s x r h. h.returned ∙ step_number x (read_of s) h.said h.is;
      refused = λ s x r why offset h e nine.
          let a = step_refused x (read_of s) h.said why offset h.is e in
          all_three (h.returned ∙ ap said_number a)
          (h.kept ∙ ap (λ a. record_bytes (told_step x.0 a).next) a ∙ record_same x.0 nine)
          (h.stored ∙ ap (λ a. served_bytes (told_step x.0 a).served) a);
      numbers = read_then_gives its_check step_numbers (read_and (17 ∷ 18 ∷ []))
          (λ plan x. step_gives plan (record_in x.0).position (length x.1)) refl refl;
      nonzero = refl;
      unread = λ s t e x r. subst (λ v. ToldStep v x.0 x.1 r.0 r.1 r.2) e;
    }

pub c_step_tied : Tied c_step_entry (contract c_step.Pre c_step.Post)
c_step_tied =
    tie (λ a. a.0.now) (λ a. (a.1.0.now, a.1.1.0.now)) (λ r z. (r, z.1.0.now, z.1.1.1.0.now))
    (λ κs a. tt) (λ κs a r z. refl)

-- ---- the texts

pub c_report_tied : Tied report_entry (contract c_report.Pre c_report.Post)
c_report_tied = tie (λ a. a.0.now) (λ a. a.1.0.now) (λ r z. (r, z.1.0.now)) (λ κs a. tt) (λ κs a r z. refl)

pub c_homing_tied : Tied homing_entry (contract c_homing.Pre c_homing.Post)
c_homing_tied = tie (λ a. a.0.now) (λ a. a.1.0.now) (λ r z. (r, z.1.0.now)) (λ κs a. tt) (λ κs a r z. refl)
