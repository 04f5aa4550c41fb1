-- What a read gives joins what was read before it.
-- Assumes nothing.
use Rattle.std.proofs.Common.{◌≡◌, ℕ, ◌+◌, ◌≤◌, List, ◌++◌, length, take, rules, ap, sym, subst, ◌∙◌, length-take-le}
use Rattle.std.proofs.Math.Seq.{take-append-add}
use Rattle.std.proofs.lemmas.List.{take-append-le}
use Rattle.std.specs.Io.KnownBytes.{Consumes}
use Rattle.std.proofs.KnownBytes.{Consumes-trans}
use borrow.Rule.Slice.PartMut.{put_mid, post_of}
use Rattle.input.proofs.read_full.Goals as goal

-- the bytes ys stored from the place a on, and n of them looked at
front_joined : (a k n : ℕ) (xs ys : List ℕ) → a ≤ length xs → n ≤ length ys
    → take a xs ++ take n ys ≡ take (a + n) (put_mid a k xs ys)
front_joined a k n xs ys within fits =
    let rest = ys ++ post_of a k xs in
    let long : length (take a xs) ≡ a = length-take-le a xs within in
    sym (
    ap (λ m. take (m + n) (take a xs ++ rest)) (sym long)
    ∙ take-append-add (take a xs) rest n
    ∙ ap (λ l. take a xs ++ l) (take-append-le n ys (post_of a k xs) fits)
    )

pub loop-done-preserved : goal.loop-done-preserved
loop-done-preserved g c =
    let l = c.loop-done in
    let size = c.in_ok-size.size in
    let read = c.read.new.buf in
    let fits = c.in_ok-size.ensures.bound.0 in
    let both = Consumes-trans _ _ _ _ _ l.invariant.given c.in_ok-size.ensures.bytes.0 in
    record {
      within = search rules;
      given = subst (Consumes _ _) (front_joined l.done _ size l.bytes read l.invariant.within fits) both;
    }
