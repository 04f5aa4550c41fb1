-- The two rules of judging, and a client's verdict (document 01, Judging and searching). A client requires x, and has
-- these slots in a frame of f.
use Rattle.std.specs.Prelude.{◌≡◌, Bool, true, false, ℕ, ◌+◌, ◌*◌, ◌<◌, leb}
use Rattle.frame.specs.Frame.{slots_of, within}
use Rattle.plan.specs.declared.Client.{Client}
use Rattle.judge.specs.declared.Verdict.{Verdict}
use Rattle.judge.specs.declared.Verdict.TheVariants.{Ok, Rate, Late}

-- "A client has enough rate when m × q ≥ p × f"
unfoldable pub enough : Client → (f m : ℕ) → Bool
enough x f m = leb (x.p * f) (m * x.q)

-- "and is in time when L × b ≤ a × m", of one stretch of j slots, w of them the client's: m × j − f × w in place of L,
-- without the subtraction
unfoldable pub covers : Client → (f m j w : ℕ) → Bool
covers x f m j w = leb (m * j * x.b) (x.a * m + f * w * x.b)

module _ (x : Client) (own : ℕ → ℕ) (f : ℕ) where
  -- the client has enough rate
  abbrev pub has_rate : Bool
  has_rate = enough x f (slots_of own f)

  -- the stretch of j slots from s on is in time
  abbrev pub in_time : ℕ → ℕ → Bool
  in_time s j = covers x f (slots_of own f) j (within own s j)

  -- "`ok`": enough rate, and every stretch is in time
  pub record IsOk : Type 0 where
    pub rate : has_rate ≡ true
    pub time : (s j : ℕ) → in_time s j ≡ true

  -- "`late`": enough rate, and "the first stretch .. that shows the failure (least start, then least length)"
  pub record IsLate (s j : ℕ) : Type 0 where
    pub rate : has_rate ≡ true
    pub fails : in_time s j ≡ false
    pub start : (t i : ℕ) → t < s → in_time t i ≡ true
    pub length : (i : ℕ) → i < j → in_time s i ≡ true

  -- "Its verdict is `rate` if it lacks rate, else `late` if it is not in time, else `ok`"
  abbrev pub IsVerdict : Verdict → Type 0
  IsVerdict Ok = IsOk
  IsVerdict Rate = has_rate ≡ false
  IsVerdict Late = (s : ℕ) × (j : ℕ) × IsLate s j
