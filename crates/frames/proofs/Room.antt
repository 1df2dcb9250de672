-- What a put stores at the end of what is held.
use Rattle.std.proofs.Common.{◌≡◌, ℕ, ◌+◌, ◌-◌, ◌≤◌, min, leb, List, ◌++◌, length, take, drop}
use Rattle.std.proofs.Common.{sym, ap, ◌∙◌, arith, length-append, leb-false, leb-true}
use Rattle.std.proofs.lemmas.List.{take-append-drop, length-take, drop_all}
use Rattle.std.proofs.lemmas.List.Edits.{sets, sets-eq}
use Rattle.std.proofs.Math.Seq.{take-append-add, take-append_seam, length-sets}
use Rattle.text.proofs.Bools.{by_bool}
use Rattle.room.specs.Put.{Put}
use Rattle.room.proofs.Laws.{sets_append, sets_behind}

-- what lies behind the room's end is not stored
stored : (l s : List ℕ) (at : ℕ) → at ≤ length l → sets l at s ≡ sets l at (take (length l - at) s)
stored l s at h =
    let k : ℕ = length l - at in
    let t : List ℕ = take k s in
    ap (sets l at) (sym (take-append-drop k s))
    ∙ sets_append l at t (drop k s)
    ∙ by_bool (leb (length s) k)
    (λ b. ap (sets (sets l at t) (at + length t)) (drop_all k s (leb-true (length s) k b)))
    (λ b. sets_behind (sets l at t) (at + length t) (drop k s) (omega (arith, length-sets l at t, length-take k s, leb-false (length s) k b)))

-- the room then begins with what was held and as much of the text as there was room for
pub held_then : {k next : ℕ} {l m s : List ℕ} (size n end : ℕ) → length l ≡ size → Put k l n s next m → n ≤ size → end ≡ min next size
    → take end m ≡ take size (take n l ++ s)
held_then {next = next} {l = l} {m = m} {s = s} size n end all p h e =
    let k : ℕ = length l - n in
    let t : List ℕ = take k s in
    let front : List ℕ = take n l ++ t in
    let rest : List ℕ = drop (n + length t) l in
    let room : m ≡ front ++ rest = p.bytes ∙ stored l s n (omega arith) ∙ sets-eq t l n (omega (arith, length-take k s)) in
    let first : end ≡ length front = omega (arith, p.place, p.reach, length-take k s, length-take n l, length-append (take n l) t) in
    let whole : size ≡ length (take n l) + k = omega (arith, length-take n l) in
    ap (λ (x : List ℕ). take end x) room
    ∙ ap (λ (x : ℕ). take x (front ++ rest)) first
    ∙ take-append_seam front rest
    ∙ sym (take-append-add (take n l) s k)
    ∙ ap (λ (x : ℕ). take x (take n l ++ s)) (sym whole)
