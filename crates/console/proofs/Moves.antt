-- Two reads or writes, one after the other, move the front of one list.
use Rattle.std.proofs.Common.{◌≡◌, ℕ, ◌+◌, ◌-◌, ◌++◌, List, length, take, drop, sym, ap, ◌∙◌, subst}
use Rattle.std.specs.Prelude.{Option}
use Rattle.std.specs.Io.KnownBytes.{Appends, Consumes}
use Rattle.std.proofs.KnownBytes.{Appends-trans, Consumes-trans}
use Rattle.std.proofs.Math.Seq.{take-add}
use Rattle.std.proofs.lemmas.List.{take_rest}

pub more_read : (a b c : Option (List ℕ)) (old new : List ℕ) (k n : ℕ) → take k new ≡ take k old → Consumes a b (take k old)
    → Consumes b c (take n (drop k new)) → Consumes a c (take (k + n) new)
more_read a b c old new k n front first second =
    let joined : take k old ++ take n (drop k new) ≡ take (k + n) new = ap (λ l. l ++ take n (drop k new)) (sym front) ∙ sym (take-add k n new) in
    subst (Consumes a c) joined (Consumes-trans a b c _ _ first second)

pub more_written : (a b c : Option (List ℕ)) (bytes : List ℕ) (k n : ℕ) → Appends a b (take k bytes)
    → Appends b c (take n (take (length bytes - k) (drop k bytes))) → Appends a c (take (k + n) bytes)
more_written a b c bytes k n first second =
    let joined = ap (λ l. take k bytes ++ take n l) (take_rest bytes k) ∙ sym (take-add k n bytes) in
    subst (Appends a c) joined (Appends-trans a b c _ _ first second)
