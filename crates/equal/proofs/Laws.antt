-- One law for each way out of the crate's functions. Assumes nothing.
use Prim.Native.Nat.{ℕ}
use mathlib.Core.Path.{◌≡◌, ◌∙◌}
use mathlib.Core.List.{List, []}
use mathlib.Core.Bool.{Bool, true, false}
use Rattle.text.specs.Word.{same}
use Rattle.text.specs.Place.{bytes_at, Lent, PartAt}
use Rattle.text.specs.declared.Place.{Place}
use Rattle.clock.specs.declared.ReferenceClock.{ReferenceClock}
use Rattle.mediarecord.specs.declared.MediaClockSource.{MediaClockSource}
use Rattle.meaning.specs.Meaning.{ref_meaning, media_meaning}
use Rattle.hosts.specs.Server.{one_server}
use Rattle.equal.specs.Private.Flat.{Flat, same_numbers, same_behind, alike_flat}
use Rattle.equal.specs.Decides.{Decides}
use Rattle.equal.specs.Alike.{Hosts, OneClock, hosts_alike}
use Rattle.equal.specs.Private.Test.{alike}
use Rattle.equal.specs.Private.Parts.{over, Says}
use Rattle.equal.specs.Private.Parts.{clock_over, source_over}
use Rattle.equal.specs.declared.parts.Parts.{Parts}
use Rattle.equal.proofs.Equality.{alike_decides, clocks_decide, sources_decide, classes}

-- `hosts_alike`
pub hosts_are : (s t : List ℕ) (r : Bool) → r ≡ one_server s t → r ≡ hosts_alike s t
unfolding hosts_alike
hosts_are s t r e = e

-- `equal_behind`; the numbers are compared field by field, and are the same over every value
module _ (v w : List ℕ) (p q : Parts) (k : Bool) (ek : k ≡ same_numbers (over [] p) (over [] q)) where
  pub numbers_not : k ≡ false → false ≡ same_behind (over v p) (over w q)
  unfolding same_behind same_numbers
  numbers_not e = simp (← ek, e)

  module _ (e : k ≡ true) (t : Bool) (et : t ≡ same (bytes_at p.name v) (bytes_at q.name w)) where
    pub name_not : t ≡ false → false ≡ same_behind (over v p) (over w q)
    unfolding same_behind same_numbers
    name_not f = simp (← ek, e, ← et, f)

    pub value_last : t ≡ true → (r : Bool) → r ≡ same (bytes_at p.value v) (bytes_at q.value w) → r ≡ same_behind (over v p) (over w q)
    unfolding same_behind same_numbers
    value_last f r er = simp (← ek, e, ← et, f, er)

-- `hosts_at`
pub hosts_at : (v w a b : Lent) (p q : Place) (r : Bool) → PartAt v p a → PartAt w q b → r ≡ hosts_alike a.now b.now
    → r ≡ hosts_alike (bytes_at p v.now) (bytes_at q w.now)
hosts_at v w a b p q r f g e = e ∙ simp (f.bytes, g.bytes)

-- the comparisons: the head, then what is behind it
module _ (hosts : Hosts) (x y : Flat) (t : Bool) (et : t ≡ hosts x.head y.head) where
  head_not : t ≡ false → false ≡ alike_flat hosts x y
  unfolding alike_flat
  head_not e = simp (← et, e)

  head_too : t ≡ true → (r : Bool) → r ≡ same_behind x y → r ≡ alike_flat hosts x y
  unfolding alike_flat
  head_too e r er = simp (← et, e, er)

-- an answer that is equal to one that decides decides too
decides_as : (P : Type 0) (q r : Bool) → r ≡ q → Decides q P → Decides r P
decides_as P q r e h = rw e h

module _ (v w : List ℕ) (p q : Parts) (t : Bool) where
  module _ (c d : ReferenceClock) (sp : Says p (clock_over c)) (sq : Says q (clock_over d)) where
    clocks_say : (hosts : Hosts) → alike_flat hosts (over v p) (over w q) ≡ alike hosts (ref_meaning v c) (ref_meaning w d)
    unfolding alike clock_over
    clocks_say hosts = rw (sp.of v, sq.of w)

    clocks_equal : (r : Bool) → r ≡ alike_flat same (over v p) (over w q) → Decides r (ref_meaning v c ≡ ref_meaning w d)
    clocks_equal r e = decides_as _ _ r (e ∙ clocks_say same) (clocks_decide (ref_meaning v c) (ref_meaning w d))

    one_clock : (r : Bool) → r ≡ alike_flat hosts_alike (over v p) (over w q) → Decides r (OneClock hosts_alike (ref_meaning v c) (ref_meaning w d))
    one_clock r e = decides_as _ _ r (e ∙ clocks_say hosts_alike) (alike_decides hosts_alike classes.of_hosts (ref_meaning v c) (ref_meaning w d))

    module _ (et : t ≡ same (bytes_at p.head v) (bytes_at q.head w)) where
      pub equal_not : t ≡ false → Decides false (ref_meaning v c ≡ ref_meaning w d)
      equal_not e = clocks_equal false (head_not same (over v p) (over w q) t et e)

      pub equal_too : t ≡ true → (r : Bool) → r ≡ same_behind (over v p) (over w q) → Decides r (ref_meaning v c ≡ ref_meaning w d)
      equal_too e r er = clocks_equal r (head_too same (over v p) (over w q) t et e r er)

    module _ (et : t ≡ hosts_alike (bytes_at p.head v) (bytes_at q.head w)) where
      pub hosts_not : t ≡ false → Decides false (OneClock hosts_alike (ref_meaning v c) (ref_meaning w d))
      hosts_not e = one_clock false (head_not hosts_alike (over v p) (over w q) t et e)

      pub hosts_too : t ≡ true → (r : Bool) → r ≡ same_behind (over v p) (over w q)
          → Decides r (OneClock hosts_alike (ref_meaning v c) (ref_meaning w d))
      hosts_too e r er = one_clock r (head_too hosts_alike (over v p) (over w q) t et e r er)

  module _ (m n : MediaClockSource) (sp : Says p (source_over m)) (sq : Says q (source_over n))
      (et : t ≡ same (bytes_at p.head v) (bytes_at q.head w)) where
    sources_equal : (r : Bool) → r ≡ alike_flat same (over v p) (over w q) → Decides r (media_meaning v m ≡ media_meaning w n)
    unfolding source_over
    sources_equal r e = decides_as _ _ r (rw (sp.of v, sq.of w) at e) (sources_decide (media_meaning v m) (media_meaning w n))

    pub tags_not : t ≡ false → Decides false (media_meaning v m ≡ media_meaning w n)
    tags_not e = sources_equal false (head_not same (over v p) (over w q) t et e)

    pub tags_too : t ≡ true → (r : Bool) → r ≡ same_behind (over v p) (over w q) → Decides r (media_meaning v m ≡ media_meaning w n)
    tags_too e r er = sources_equal r (head_too same (over v p) (over w q) t et e r er)

pub ruleset laws = (
  hosts_are,
  numbers_not,
  name_not,
  value_last,
  hosts_at,
  equal_not,
  equal_too,
  hosts_not,
  hosts_too,
  tags_not,
  tags_too,
)
