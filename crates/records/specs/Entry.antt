-- Demand 1 for one public entry: "Every stream, table, arbiter record and number handed in gets a defined reply". An
-- entry is a row of a table: what is handed in, what it refuses, what comes back.
use Rattle.std.specs.Prelude.{◌≡◌, false, List, [], map, ℕ, Err}
use Rattle.std.specs.declared.clone.Clone as clone
use denote.RattleType.{RattleType}
use denote.Param.Laws.{Laws, IsCopy}
use mir.Syntax.{Dict}
use Rattle.records.specs.declared.refusal.Refusal.{Refusal}
use Rattle.records.specs.First.{Outcome, Fine, refuse, number_of, among, Gives}
use Rattle.records.specs.Said.{Said, said_number}

pub record Entry : Type 1 where
  -- what it is asked about, and when two of these are the same: "Places past f .. and past n are ignored"
  pub Subject : Type 0
  pub Same : Subject → Subject → Type 0
  -- all else that is handed in, and lent memory as it is before the call where that matters
  pub More : Type 0
  -- what comes back, lent memory as it is after the call
  pub Reply : Type 0
  -- its contract
  pub Is : Subject → More → Reply → Type 0
  -- what it refuses, and with which numbers
  pub check : Subject → More → Outcome
  pub numbers : List ℕ
  -- a reply's number, 0 where nothing is refused
  pub number : Reply → ℕ
  -- a reply that refuses so and at this offset: "all other results 0", lent memory as it was
  pub Refuses : More → (why : Refusal) (offset : ℕ) → Reply → Type 0

-- ---- what holds of every row

pub record Tight (e : Entry) : Type 0 where
  -- "a defined reply": what is returned and what is left in lent memory
  pub once : (u : e.Subject) (x : e.More) (r r' : e.Reply) → e.Is u x r → e.Is u x r' → r ≡ r'
  -- refused exactly where the check refuses, with its number
  pub number : (u : e.Subject) (x : e.More) (r : e.Reply) → e.Is u x r → e.number r ≡ number_of (e.check u x)
  -- and then nothing else is returned or changed
  pub refused : (u : e.Subject) (x : e.More) (r : e.Reply) (why : Refusal) (offset : ℕ)
      → e.Is u x r → e.check u x ≡ refuse why offset → e.Refuses x why offset r
  -- "Each refusal has its number": one of these, and 0 is none of them
  pub numbers : (u : e.Subject) (x : e.More) → Gives e.numbers (e.check u x)
  pub nonzero : among 0 e.numbers ≡ false
  -- places that are not used are not read
  pub unread : (u u' : e.Subject) → e.Same u u' → (x : e.More) (r : e.Reply) → e.Is u x r → e.Is u' x r

-- and each of its numbers is given somewhere: inputs that show them, one by one
abbrev pub Shown : Entry → Type 0
Shown e = (l : List (e.Subject × e.More)) × (map (λ i. number_of (e.check i.0 i.1)) l ≡ e.numbers)

-- ---- what ties a row to its entry

-- a function's contract, as the kit makes it of the words in lib.rt: what it asks of a call's lifetimes and arguments,
-- and what it says of these, of the result and of the arguments at the end of the call
pub record Contract : Type 1 where
  pub Lifetimes : Type 0
  pub Arguments : Type 0
  pub Result : Type 0
  pub Last : Type 0
  pub Pre : Lifetimes → Arguments → Type 0
  pub Post : Lifetimes → Arguments → Result → Last → Type 0

abbrev pub contract : {K A R L : Type 0} → (K → A → Type 0) → (K → A → R → L → Type 0) → Contract
contract {K} {A} {R} {L} Pre Post =
    record { Lifetimes = K; Arguments = A; Result = R; Last = L; Pre = Pre; Post = Post }

-- nothing is asked of a call, and what the contract says of it is what the row says; in the reply stand the result and
-- all that is lent to be changed
pub record Tied (e : Entry) (c : Contract) : Type 1 where
  pub subject : c.Arguments → e.Subject
  pub more : c.Arguments → e.More
  pub reply : c.Result → c.Last → e.Reply
  pub asks_nothing : (κs : c.Lifetimes) (a : c.Arguments) → c.Pre κs a
  pub same : (κs : c.Lifetimes) (a : c.Arguments) (r : c.Result) (z : c.Last)
      → c.Post κs a r z ≡ e.Is (subject a) (more a) (reply r z)

-- a type that a generic function may be called with, as the kit knows it: its values are copied, and hold no reference
pub record Plain : Type 2 where
  pub type : RattleType
  pub laws : Laws type
  pub copied : IsCopy type
  pub cloned : clone.Ghosts type.Denot
  pub methods : Dict
  pub lives : type.lives ≡ []

-- its values
abbrev pub ValueOf : Plain → Type 0
ValueOf plain = plain.type.Denot

-- ---- rows of one shape

-- an entry whose reply, of any type, says a value or why it is refused, by say, and which returns nothing besides;
-- refuse is the reply that refuses so
abbrev pub says_by : {U X A R : Type 0} → (U → U → Type 0) → (U → X → R → Type 0) → (U → X → Outcome) → List ℕ
    → (R → Said A) → (Refusal → R) → Entry
says_by {U} {X} {A} {R} Same Is check numbers say refuse =
    record {
      Subject = U;
      Same = Same;
      More = X;
      Reply = R;
      Is = Is;
      check = check;
      numbers = numbers;
      number = λ r. said_number (say r);
      Refuses = λ x why offset r. r ≡ refuse why;
    }

-- an entry that says a value or why it is refused, and returns nothing besides
abbrev pub says : {U X A : Type 0} → (U → U → Type 0) → (U → X → Said A → Type 0) → (U → X → Outcome) → List ℕ
    → Entry
says {U} {X} {A} Same Is check numbers = says_by {A = A} Same Is check numbers (λ r. r) (λ why. Err why)

-- an entry that returns what a check finds; `at` is the offset that it has, 0 outside reading
abbrev pub finds : {U X : Type 0} → (U → U → Type 0) → (ℕ → ℕ) → (U → X → Outcome) → List ℕ → Entry
finds {U} {X} Same at check numbers =
    record {
      Subject = U;
      Same = Same;
      More = X;
      Reply = Outcome;
      Is = λ u x r. r ≡ check u x;
      check = check;
      numbers = numbers;
      number = number_of;
      Refuses = λ x why offset r. r ≡ refuse why (at offset);
    }

-- an entry that refuses nothing
abbrev pub always : {U X R : Type 0} → (U → X → R → Type 0) → Entry
always {U} {X} {R} Is =
    record {
      Subject = U;
      Same = λ u u'. u ≡ u';
      More = X;
      Reply = R;
      Is = Is;
      check = λ u x. Fine;
      numbers = [];
      number = λ r. 0;
      Refuses = λ x why offset r. ⊥;
    }
