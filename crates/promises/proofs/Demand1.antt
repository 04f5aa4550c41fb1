-- Demand 1: every stream, plan, arbiter record and number handed in gets a defined reply. `defined` says it of all
-- public entries, row by row of the table in specs/Entries.antt: two outcomes that a contract allows coincide; each
-- refusal has its number, gives nothing besides, to C 0 for all else, and leaves a lent output untouched and a lent
-- record unchanged; places that are not used are not read; each number is given somewhere; and the row is the entry's
-- own contract. After it what is one entry's own.
-- Assumes nothing.
use mathlib.Core.Path.{◌≡◌, refl, ap, ◌∙◌}
use mathlib.Core.List.{List}
use Prim.Native.Nat.{ℕ, ◌-◌, ◌≤◌, ◌<◌}
use native.Mathlib.Omega.{arith}
use lib.ListN.{length, get_or, take, drop}
use lib.Seq.{take_at, drop_at}
use Rattle.std.specs.declared.result.Result.TheVariants as result
use Rattle.frame.specs.Frame.{slots_of}
use Rattle.records.specs.declared.refusal.At.{At}
use Rattle.records.specs.declared.refusal.Refusal.{Refusal}
use Rattle.records.specs.First.{Outcome, Fine}
use Rattle.records.specs.Said.{Said}
use Rattle.records.specs.Entry.{Tight, Plain, ValueOf, Shown, Tied}
use Rattle.records.specs.Put.{Put}
use Rattle.records.proofs.Said.{answers_given}
use Rattle.records.proofs.Entry as entries
use Rattle.records.proofs.Puts.{put_length, put_front}
use Rattle.records.proofs.Entries as records
use Rattle.plan.proofs.Entries as plan
use Rattle.stream.proofs.Entries as stream
use Rattle.figures.proofs.Entries as figures
use Rattle.judge.proofs.Entries as judge
use Rattle.search.proofs.Entries as search
use Rattle.arbiter.proofs.Entries as arbiter
use Rattle.text.proofs.Entries as text
use Rattle.listing.proofs.Entries as listing
use Rattle.capi.proofs.Entries as capi
use Rattle.plan.specs.declared.Plan.{Plan}
use Rattle.plan.specs.Plan.{client_of, own_of}
use Rattle.plan.specs.Check.{plan_check, asked_check}
use Rattle.plan.proofs.Laws.{Checked, plan_fine, plan_pass, asked_fine, asked_pass}
use Rattle.text.specs.Text.{bytes, refusal_line, Puts, Lendable}
use Rattle.stream.specs.Read.{read_of}
use Rattle.stream.specs.Write.{stream_of, write_check, bytes_by, bytes_of}
use Rattle.stream.proofs.Answers.{reading_refused}
use Rattle.stream.proofs.Offsets.{read_within}
use Rattle.figures.specs.Check.{figure_check, wait_check}
use Rattle.figures.specs.Figures.{IsFigure, IsFigures, Waits, IsWaitFor}
use Rattle.figures.specs.declared.Figure.{Figure}
use Rattle.figures.proofs.Questions.{Asked, figure_fine, figure_pass, Waited, wait_fine, wait_pass}
use Rattle.judge.specs.declared.Judgement.{Judgement}
use Rattle.judge.specs.declared.Verdict.{Verdict}
use Rattle.judge.specs.Rules.{IsVerdict}
use Rattle.judge.specs.Judge.{IsJudgement, IsJudged, IsVerdictOf}
use Rattle.search.specs.Search.{search_check}
use Rattle.search.proofs.Questions.{Searchable, search_fine, search_pass}
use Rattle.arbiter.specs.declared.Arbiter.{Arbiter}
use Rattle.arbiter.specs.Step.{count_of, step_check, step_of}
use Rattle.arbiter.proofs.Questions.{Steps, step_fine, step_pass}
use Rattle.arbiter.proofs.Same.{served_unread, count_unread}
use Rattle.arbiter.proofs.Laws.{step_kept, step_none}
use Rattle.listing.specs.Listing.{figures_text, wait_text, IsReport, IsHoming}
use Rattle.promises.specs.Entries.{Name, entry}
use Rattle.promises.proofs.Contracts.{contract_of, tied}
use Rattle.promises.proofs.Shown.{shown}

-- ---- all entries

pub tight : (name : Name) → Tight (entry name)
tight (Name.records::or_else E) = records.or_else_tight (ValueOf E)
tight (Name.records::check_range E) = records.range_tight (ValueOf E)
tight Name.records::wide = records.wide_tight
tight Name.records::kind_at = records.kind_tight
tight Name.records::check_record = records.record_tight
tight (Name.records::check_record_by E) = records.record_by_tight (ValueOf E)
tight Name.records::check_over = records.over_tight
tight Name.plan::no_client = plan.no_client_tight
tight Name.plan::no_plan = plan.no_plan_tight
tight Name.plan::with_table = plan.table_tight
tight Name.plan::check_requirements = plan.requirements_tight
tight Name.plan::check = plan.check_tight
tight Name.plan::check_asked = plan.asked_tight
tight Name.stream::read = stream.read_tight
tight Name.stream::write = stream.write_tight
tight Name.stream::rewritten = stream.rewritten_tight
tight Name.stream::reread = stream.reread_tight
tight Name.figures::figure_of = figures.figure_tight
tight Name.figures::wait_for = figures.wait_tight
tight Name.figures::default_wait = figures.default_tight
tight Name.judge::judge = judge.judge_tight
tight Name.judge::verdict_of = judge.verdict_tight
tight Name.search::search = search.search_tight
tight Name.arbiter::step = arbiter.step_tight
tight Name.arbiter::step_in_place = arbiter.in_place_tight
tight Name.arbiter::step_lending = arbiter.step_tight
tight Name.text::put_refusal = text.put_refusal_tight
tight Name.listing::report = listing.report_tight
tight Name.listing::homing = listing.homing_tight
tight Name.capi::gwelathur_read = capi.c_read_tight
tight Name.capi::gwelathur_figures = capi.c_figures_tight
tight Name.capi::gwelathur_wait = capi.c_wait_tight
tight Name.capi::gwelathur_default_wait = capi.c_default_tight
tight Name.capi::gwelathur_judge = capi.c_judge_tight
tight Name.capi::gwelathur_verdict = capi.c_verdict_tight
tight Name.capi::gwelathur_search = capi.c_search_tight
tight Name.capi::gwelathur_search_whole = capi.c_search_tight
tight Name.capi::gwelathur_write = capi.c_write_tight
tight Name.capi::gwelathur_step = capi.c_step_tight
tight Name.capi::gwelathur_report = listing.report_tight
tight Name.capi::gwelathur_homing = listing.homing_tight

pub defined : (name : Name) → Tight (entry name) × Shown (entry name) × Tied (entry name) (contract_of name)
defined name = (tight name, shown name, tied name)

-- a generic one, too, as the checks here call it: by document 01's refusals, which are such a type (`refusals_are`)
pub defined_refusals : (name : Plain → Name) → Tight (entry (name records.refusals))
    × Shown (entry (name records.refusals)) × Tied (entry (name records.refusals)) (contract_of (name records.refusals))
defined_refusals name = defined (name records.refusals)

-- so a reply has number 0 exactly where the check passes
pub exactly : (name : Name) (u : (entry name).Subject) (x : (entry name).More) (r : (entry name).Reply)
    → (entry name).Is u x r
    → ((entry name).number r ≡ 0 → (entry name).check u x ≡ Fine)
    × ((entry name).check u x ≡ Fine → (entry name).number r ≡ 0)
exactly name = entries.exactly (entry name) (tight name)

-- ---- where a check passes

-- a plan passes exactly when it is in bounds
pub check_exactly : (plan : Plan) → (plan_check plan ≡ Fine → Checked plan) × (Checked plan → plan_check plan ≡ Fine)
check_exactly plan = (plan_fine plan, plan_pass plan)

-- a question about a client when the plan is in bounds and the client is 1 to n
pub verdict_exactly : (plan : Plan) (c : ℕ)
    → (asked_check plan c ≡ Fine → Checked plan × (1 ≤ c) × (c ≤ plan.n))
    × (Checked plan × (1 ≤ c) × (c ≤ plan.n) → asked_check plan c ≡ Fine)
verdict_exactly plan c = (asked_fine plan c, λ ok. asked_pass plan c ok.0 ok.1 ok.2)

-- one about its figures when it owns a slot, too
pub figure_exactly : (plan : Plan) (c : ℕ)
    → (figure_check plan c ≡ Fine → Asked plan c) × (Asked plan c → figure_check plan c ≡ Fine)
figure_exactly plan c = (figure_fine plan c, figure_pass plan c)

-- a wait when the question does and its waiting number is 1 to 255
pub wait_exactly : (plan : Plan) (c k : ℕ)
    → (wait_check plan c k ≡ Fine → Waited plan c k) × (Waited plan c k → wait_check plan c k ≡ Fine)
wait_exactly plan c k = (wait_fine plan c k, wait_pass plan c k)

-- a search when f, n and the requirements are in bounds, f is at most 8 and n at most 4
pub search_exactly : (plan : Plan)
    → (search_check plan ≡ Fine → Searchable plan) × (Searchable plan → search_check plan ≡ Fine)
search_exactly plan = (search_fine plan, search_pass plan)

-- a step when its plan is in bounds, its position is below f and its list has n entries
pub step_exactly : (plan : Plan) (position arrived : ℕ)
    → (step_check plan position arrived ≡ Fine → Steps plan position arrived)
    × (Steps plan position arrived → step_check plan position arrived ≡ Fine)
step_exactly plan position arrived = (step_fine plan position arrived, step_pass plan position arrived)

-- and where its check passes, a question's answer is given
pub figure_given : (plan : Plan) (c : ℕ) (r : Said Figure) → IsFigures plan c r → figure_check plan c ≡ Fine
    → (x : Figure) × (r ≡ result.Ok x) × IsFigure (own_of plan c) plan.f x
figure_given plan c = answers_given _ _

pub wait_given : (plan : Plan) (c k : ℕ) (r : Said ℕ) → IsWaitFor plan c k r → wait_check plan c k ≡ Fine
    → (x : ℕ) × (r ≡ result.Ok x) × Waits (own_of plan c) plan.f k x
wait_given plan c k = answers_given _ _

pub judge_given : (plan : Plan) (r : Said Judgement) → IsJudged plan r → plan_check plan ≡ Fine
    → (x : Judgement) × (r ≡ result.Ok x) × IsJudgement plan 0 plan.n x
judge_given plan = answers_given _ _

pub verdict_given : (plan : Plan) (c : ℕ) (r : Said Verdict) → IsVerdictOf plan c r → asked_check plan c ≡ Fine
    → (x : Verdict) × (r ≡ result.Ok x) × IsVerdict (client_of plan (c - 1)) (own_of plan c) plan.f x
verdict_given plan c = answers_given _ _

-- ---- the arbiter's record

-- "Counts past n are not read": records with the same position and counts up to n get the same answer, and are left
-- with the same counts up to n
pub counts_unread : (plan : Plan) (arb other : Arbiter) (xs : List ℕ) → arb.position ≡ other.position
    → ((i : ℕ) → i < plan.n → count_of arb i ≡ count_of other i)
    → ((step_of plan arb xs).served ≡ (step_of plan other xs).served)
    × ((i : ℕ) → i < plan.n → count_of (step_of plan arb xs).next i ≡ count_of (step_of plan other xs).next i)
counts_unread plan arb other xs place counts =
    (served_unread plan arb other xs place counts, count_unread plan arb other xs place counts)

-- "and are kept"
pub counts_kept : (plan : Plan) (arb : Arbiter) (xs : List ℕ) (i : ℕ) → plan.n ≤ i
    → count_of (step_of plan arb xs).next i ≡ count_of arb i
counts_kept = step_kept

-- "each client's turned-away count, 0 past n"
pub turned_none : (plan : Plan) (arb : Arbiter) (xs : List ℕ) (i : ℕ) → plan.n ≤ i
    → get_or (step_of plan arb xs).served.turned i 0 ≡ 0
turned_none = step_none

-- ---- streams

-- "the offset of that record's kind byte (.. the stream length ..)": it lies in the stream or at its end
pub read_offset : (s : List ℕ) (refused : At Refusal) → read_of s ≡ result.Err refused → refused.offset ≤ length s
read_offset s refused h = rw (reading_refused s h) at (read_within s)

kept_by : (o : Outcome) (stream out : List ℕ) → drop (length stream) (bytes_by o stream out) ≡ drop (length stream) out
kept_by (result.Ok u) stream out = drop_at stream (drop (length stream) out) (length stream) refl
kept_by (result.Err refused) stream out = refl

-- "A write that succeeds touches only the stream's length of bytes"
pub write_kept : (plan : Plan) (out : List ℕ)
    → drop (length (stream_of plan)) (bytes_of plan out) ≡ drop (length (stream_of plan)) out
unfolding bytes_of
write_kept plan out = kept_by (write_check plan (length out)) (stream_of plan) out

-- ---- pages

-- what a page then holds: at its front, which the programs write, the text, and past it what stood there
page_after : (Is : List ℕ → Type 0) (out now : List ℕ) (r : ℕ) → Puts Is out 0 now r → Lendable r now
    → Is (take r now) × (drop r now ≡ drop r out)
page_after Is out now r puts front =
    let text = puts.text in
    let put = puts.put in
    let size : length text ≡ r = omega (arith, put.place) in
    let page = put_front put (omega (arith, front.0, put_length put)) in
    let text_first : take r now ≡ text = ap (take r) page ∙ take_at text _ r size in (
      rw text_first puts.is,
      ap (drop r) page ∙ drop_at text _ r size ∙ ap (λ (k : ℕ). drop k out) size,
    )

pub refusal_page : (out now : List ℕ) (number offset r : ℕ) → Put out 0 (refusal_line number offset) now r
    → Lendable r now → (take r now ≡ refusal_line number offset) × (drop r now ≡ drop r out)
refusal_page out now number offset r put =
    let line = refusal_line number offset in
    page_after (λ text. text ≡ line) out now r (record { text = line; is = refl; put = put })

pub report_page : (s out now : List ℕ) (r : ℕ) → Puts (IsReport s) out 0 now r → Lendable r now
    → IsReport s (take r now) × (drop r now ≡ drop r out)
report_page s = page_after (IsReport s)

pub homing_page : (s out now : List ℕ) (r : ℕ) → Puts (IsHoming s) out 0 now r → Lendable r now
    → IsHoming s (take r now) × (drop r now ≡ drop r out)
homing_page s = page_after (IsHoming s)

-- "A client without slots has `-` for L and wait", and m 0; one with slots has numbers
pub no_slots_figures : (plan : Plan) (c : ℕ) (r : Said Figure) → IsFigures plan c r
    → slots_of (own_of plan c) plan.f ≡ 0 → figures_text r ≡ bytes "0 -"
unfolding figures_text
no_slots_figures plan c (result.Ok found) is none = absurd (omega (arith, none, (figure_fine plan c is.0).owns))
no_slots_figures plan c (result.Err why) is none = refl

pub no_slots_wait : (plan : Plan) (c k : ℕ) (r : Said ℕ) → IsWaitFor plan c k r
    → slots_of (own_of plan c) plan.f ≡ 0 → wait_text r ≡ bytes "-"
unfolding wait_text
no_slots_wait plan c k (result.Ok slots) is none =
    absurd (omega (arith, none, (wait_fine plan c k is.0).asked.owns))
no_slots_wait plan c k (result.Err why) is none = refl
