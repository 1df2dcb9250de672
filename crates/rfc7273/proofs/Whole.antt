-- The whole grammar and its alternatives have the same texts; and all that is owed. Assumes nothing.
use Prim.Native.Nat.{ℕ}
use mathlib.Core.Path.{◌≡◌, refl, sym, ap, ◌∙◌}
use mathlib.Core.Bool.{true}
use mathlib.Core.List.{List, [], ◌++◌}
use Rattle.text.proofs.Bools.{both, and_left, and_right}
use Rattle.abnf.specs.Rule.{Rule, nothing, ◌or◌, ◌then◌, maybe}
use Rattle.abnf.proofs.Rules.{then_join}
use Rattle.meaning.specs.Meaning.{RefMeaning, ref_meaning, SourceMeaning, media_meaning}
use Rattle.rfc7273.specs.Manner.{Manner, published, narrowed, only_in, quoted}
use Rattle.rfc7273.specs.Elsewhere.{sp}
use Rattle.rfc7273.specs.Kinds.{accepted_as, RefKind, ref_kind, ref_says, SourceKind, MediaKind, ◌with_id◌, source_kind, media_says}
use Rattle.rfc7273.specs.Kinds as kind
use Rattle.rfc7273.specs.Grammar.{clksrc, clksrc_of, mediaclock, mediaclock_of, tag, mediaclk, mediaclk_of, left_to_no_id}
use Rattle.rfc7273.specs.Taken.{Narrower, RefReads, MediaReads, RefOwed, MediaOwed}
use Rattle.rfc7273.proofs.Laws.{of_then, of_or, of_maybe, or_first, or_second}
use Rattle.rfc7273.proofs.Narrower.{Within, within_same, within_then, ref_narrower, source_narrower}
use Rattle.rfc7273.proofs.Texts.{ref_text, source_text}
use Rattle.rfc7273.proofs.Meanings.{ref_meant, source_meant}
use Rattle.rfc7273.proofs.Reference.{ref_read}
use Rattle.rfc7273.proofs.Media.{media_read}

-- a text of one of the alternatives
abbrev One : {K : Type 0} → (K → Rule) → List ℕ → Type 0
One {K} p s = (k : K) × (p k s ≡ true)

-- a choice: either side is within it
left : (p q : Rule) {u : Rule} → Within u p → Within u (p or q)
left p q f = record { within = λ s h. or_first p q s (f.within s h) }

right : (p q : Rule) {u : Rule} → Within u q → Within u (p or q)
right p q f = record { within = λ s h. or_second p q s (f.within s h) }

module _ (m : Manner) where
  ref_covered : (s : List ℕ) → clksrc m s ≡ true → One (clksrc_of m) s
  unfolding clksrc
  ref_covered =
      let P = One (clksrc_of m) in
      of_or P (λ s h. (kind.ntp, h))
      (of_or P (λ s h. (kind.ptp, h))
      (of_or P (λ s h. (kind.gps, h))
      (of_or P (λ s h. (kind.gal, h))
      (of_or P (λ s h. (kind.glonass, h))
      (of_or P (λ s h. (kind.local, h))
      (of_or P (λ s h. (kind.private, h)) (λ s h. (kind.ref_ext, h))))))))

  ref_covers : (k : RefKind) → Within (clksrc_of m k) (clksrc m)
  unfolding clksrc
  ref_covers kind.ntp = search (within_same, left, right) depth 20
  ref_covers kind.ptp = search (within_same, left, right) depth 20
  ref_covers kind.gps = search (within_same, left, right) depth 20
  ref_covers kind.gal = search (within_same, left, right) depth 20
  ref_covers kind.glonass = search (within_same, left, right) depth 20
  ref_covers kind.local = search (within_same, left, right) depth 20
  ref_covers kind.private = search (within_same, left, right) depth 20
  ref_covers kind.ref_ext = search (within_same, left, right) depth 20

  media_covered : (s : List ℕ) → mediaclock m s ≡ true → One (mediaclock_of m) s
  unfolding mediaclock
  media_covered =
      let P = One (mediaclock_of m) in
      of_or P (λ s h. (kind.sender, h)) (of_or P (λ s h. (kind.direct, h)) (of_or P (λ s h. (kind.stream, h)) (λ s h. (kind.media_ext, h))))

  media_covers : (k : MediaKind) → Within (mediaclock_of m k) (mediaclock m)
  unfolding mediaclock
  media_covers kind.sender = search (within_same, left, right) depth 20
  media_covers kind.direct = search (within_same, left, right) depth 20
  media_covers kind.stream = search (within_same, left, right) depth 20
  media_covers kind.media_ext = search (within_same, left, right) depth 20

-- `only` of an alternative
only_first : (m : Manner) (p q : Rule) → Narrower (only_in m p q) p
unfolding only_in
only_first published p q s h = h
only_first narrowed p q s h = and_left (p s) (q s) h

only_swap : (m : Manner) (p u q : Rule) (s : List ℕ) → only_in m p q s ≡ true → u s ≡ true → only_in m u q s ≡ true
unfolding only_in
only_swap published p u q s h k = k
only_swap narrowed p u q s h k = both k (and_right (p s) (q s) h)

module _ (m : Manner) where
  abbrev tag_space : Rule
  tag_space = tag m then sp

  source_covered : (s : List ℕ) → mediaclk m s ≡ true → One (mediaclk_of m) s
  unfolding mediaclk
  source_covered =
      of_or P
      (of_then P (quoted m "id=" then maybe (quoted m "src:") then tag_space) (mediaclock m) (λ x y h j.
      let c = media_covered m y j in
      of_then (λ z. P (z ++ y)) (quoted m "id=") (maybe (quoted m "src:") then tag_space) (λ u v hu.
      of_then (λ z. P ((u ++ z) ++ y)) (maybe (quoted m "src:")) tag_space (λ a b ha hb.
      of_maybe (λ z. P ((u ++ (z ++ b)) ++ y))
      (c.0 with_id kind.plain_id, then_join _ _ (u ++ b) y (then_join _ _ u b hu hb) c.1)
      (λ z hz. (c.0 with_id kind.src_id, then_join _ _ (u ++ (z ++ b)) y (then_join _ _ u (z ++ b) hu (then_join _ _ z b hz hb)) c.1))
      a ha) v) x h))
      (λ s h.
      let c = media_covered m s (only_first m (mediaclock m) left_to_no_id s h) in
      (c.0 with_id kind.no_id, only_swap m (mediaclock m) (mediaclock_of m c.0) left_to_no_id s h c.1))
    where
      P : List ℕ → Type 0
      P = One (mediaclk_of m)

-- nothing, where there may be nothing
skip : (p q : Rule) → Within q (maybe p then q)
unfolding ◌or◌ nothing
skip p q = record { within = λ s h. then_join (maybe p) q [] s refl h }

module _ (m : Manner) where
  source_covers : (k : SourceKind) → Within (mediaclk_of m k) (mediaclk m)
  unfolding mediaclk
  source_covers (k with_id kind.no_id) =
      right _ _
      (record {
        within = λ s h.
            only_swap m (mediaclock_of m k) (mediaclock m) left_to_no_id s h
            ((media_covers m k).within s (only_first m (mediaclock_of m k) left_to_no_id s h));
      })
  source_covers (k with_id kind.plain_id) = left _ _ (within_then (within_then within_same (skip (quoted m "src:") (tag_space m))) (media_covers m k))
  source_covers (k with_id kind.src_id) =
      left _ _ (within_then (within_then within_same (within_then (right _ _ within_same) within_same)) (media_covers m k))

-- a text is accepted as the kind of its meaning
ref_accepted : (s : List ℕ) (m : RefMeaning) → RefReads s m → ref_says s ≡ accepted_as (ref_kind m)
unfolding ref_says
ref_accepted s m r = rw (r.accepted, r.means)

media_accepted : (s : List ℕ) (m : SourceMeaning) → MediaReads s m → media_says s ≡ accepted_as (source_kind m)
unfolding media_says
media_accepted s m r = rw (r.accepted, r.means)

-- what two records mean that are read of one text
ref_once : (s : List ℕ) (m n : RefMeaning) → RefReads s m → RefReads s n → m ≡ n
ref_once s m n f g =
    let e : f.clock ≡ g.clock = cc (f.accepted, g.accepted) in
    sym f.means ∙ ap (ref_meaning s) e ∙ g.means

media_once : (s : List ℕ) (m n : SourceMeaning) → MediaReads s m → MediaReads s n → m ≡ n
media_once s m n f g =
    let e : f.source ≡ g.source = cc (f.accepted, g.accepted) in
    sym f.means ∙ ap (media_meaning s) e ∙ g.means

pub ref_owed : RefOwed
ref_owed =
    record {
      meant = ref_meant;
      taken = λ s m t. ref_text t;
      read = λ s m t. ref_read t;
      once = λ s m n t u h. ref_once s m n (ref_read t h) (ref_read u h);
      accepted = λ k s e h. let m = ref_meant k s e in ref_accepted s m.meaning (ref_read m.text h) ∙ ap accepted_as m.of_kind;
      narrower = ref_narrower;
      covered = ref_covered;
      covers = λ m k. (ref_covers m k).within;
    }

pub media_owed : MediaOwed
media_owed =
    record {
      meant = source_meant;
      taken = λ s m t. source_text t;
      read = λ s m t. media_read t;
      once = λ s m n t u h. media_once s m n (media_read t h) (media_read u h);
      accepted = λ k s e h. let m = source_meant k s e in media_accepted s m.meaning (media_read m.text h) ∙ ap accepted_as m.of_kind;
      narrower = source_narrower;
      covered = source_covered;
      covers = λ m k. (source_covers m k).within;
    }
