-- The length and the bytes of one file after a write.
use Rattle.std.proofs.Common.{◌≡◌, ℕ, ◌+◌, Bool, true, false, List, ◌++◌, length, max, sym, ◌∙◌, ap, Result, Ok, Err, OnOk, is_ok, if◌then◌else◌}
use Rattle.nb_file.proofs.Common.{false≢true, put_at}
use Rattle.nb_file.proofs.PutLaws.{length-put_at, put_at-end}

-- where the file is sure after a write, its length is known
pub measured_after : {E : Type 0} (r : Result Unit E) (was is done : Bool) (len len' at end : ℕ) (before after new : List ℕ)
    → done ≡ is_ok r → is ≡ if done then was else true → len' ≡ max len end → end ≡ at + length new → (was ≡ false → len ≡ length before) → OnOk r (after ≡ put_at before at new)
    → is ≡ false → len' ≡ length after
measured_after (Ok u) was is done len len' at end before after new all lost grew ends known put sure =
    grew ∙ (λ i. max (known unlost i) (ends i)) ∙ sym (ap length put ∙ length-put_at before at new)
  where
    unlost : was ≡ false
    unlost = sym (ap (λ b. if b then was else true) all) ∙ sym lost ∙ sure
measured_after (Err e) was is done len len' at end before after new all lost grew ends known put sure = absurd (false≢true (sym sure ∙ lost ∙ ap (λ b. if b then was else true) all))

-- what is put at the end is added
pub added_at_end : {E : Type 0} (r : Result Unit E) (old now new : List ℕ) (at : ℕ) → at ≡ length old → OnOk r (now ≡ put_at old at new) → OnOk r (now ≡ old ++ new)
added_at_end (Ok u) old now new at is put = put ∙ put_at-end old at new is
added_at_end (Err e) old now new at is put = tt
