-- What each reader of the crate comes to on each way through it. Assumes nothing.
use Rattle.std.specs.Prelude.{Some, None, Ok, Err}
use Prim.Native.Nat.{ℕ, ◌+◌, ◌≤◌, ◌<◌}
use mathlib.Core.Path.{◌≡◌, refl, sym, ◌∙◌}
use mathlib.Core.List.{List}
use mathlib.Core.Bool.{Bool, true, false}
use lib.ListN.{length, take, drop}
use lib.Seq.{take_all}
use borrow.Author.Tests.{eq-eqb, ne_eqb, lt-ltb, le-ltb}
use Rattle.text.specs.Find.{before}
use Rattle.text.specs.Word.{word, same}
use Rattle.text.specs.declared.Place.{Place}
use Rattle.text.specs.Place.{place}
use Rattle.text.proofs.Cuts.{same_eq}
use Rattle.number.specs.Decimal.{number_of}
use Rattle.number.proofs.Laws.{number_le}
use Rattle.eui64.specs.Eui64.{eui64_of}
use Rattle.clock.specs.Refusal.{refusal}
use Rattle.clock.specs.Records.{ptp}
use Rattle.clock.specs.declared.Refusal.{Refusal}
use Rattle.clock.specs.declared.PtpVersion.TheVariants.{Ieee1588_2002, Ieee1588_2008, Ieee8021As_2011, Ext}
use Rattle.clock.specs.declared.Eui64.{Eui64}
use Rattle.clock.specs.declared.PtpDomain.{PtpDomain}
use Rattle.clock.specs.declared.PtpDomain.TheVariants.{DomainName, DomainNumber}
use Rattle.clock.specs.declared.PtpServer.TheVariants.{GmidDomain, Traceable}
use Rattle.meaning.specs.Answer.{Answer, refuse, ◌>>=◌, or_refuse, empty}
use Rattle.meaning.specs.Domain.{bare, bare_read}
use Rattle.meaning.proofs.Told.{made_twice}
use Rattle.meaning.specs.ReferenceClock.{version_of, gmid_of, gmid_or, domain_of, server_of, ptp_of}

-- `read_version`
module _ (at : ℕ) (s : List ℕ) (t0 : Bool) (e0 : t0 ≡ empty s) where
  pub version_empty : t0 ≡ true → (r : Refusal) → r ≡ refusal 7 at 0 → Err r ≡ version_of at s
  unfolding version_of
  version_empty f r er = simp (← e0, f, er)

  module _ (f0 : t0 ≡ false) (t1 : Bool) (e1 : t1 ≡ same s (word "IEEE1588-2008")) where
    -- what is the one word is not the other, which the rules try first
    not_2002 : t1 ≡ true → same s (word "IEEE1588-2002") ≡ false
    unfolding same
    not_2002 f = rw (same_eq s (word "IEEE1588-2008") (sym e1 ∙ f)) refl

    pub version_2008 : t1 ≡ true → Ok Ieee1588_2008 ≡ version_of at s
    unfolding version_of
    version_2008 f = simp (← e0, f0, not_2002 f, ← e1, f)

    module _ (f1 : t1 ≡ false) (t2 : Bool) (e2 : t2 ≡ same s (word "IEEE1588-2002")) where
      pub version_2002 : t2 ≡ true → Ok Ieee1588_2002 ≡ version_of at s
      unfolding version_of
      version_2002 f = simp (← e0, f0, ← e2, f)

      module _ (f2 : t2 ≡ false) (t3 : Bool) (e3 : t3 ≡ same s (word "IEEE802.1AS-2011")) where
        pub version_2011 : t3 ≡ true → Ok Ieee8021As_2011 ≡ version_of at s
        unfolding version_of
        version_2011 f = simp (← e0, f0, ← e2, f2, ← e1, f1, ← e3, f)

        pub version_own : t3 ≡ false → (p : Place) → p ≡ place at (length s) → Ok (Ext p) ≡ version_of at s
        unfolding version_of
        version_own f p ep = simp (← e0, f0, ← e2, f2, ← e1, f1, ← e3, f, ep)

-- `read_domain`
module _ (at : ℕ) (s : List ℕ) where
  pub domain_name : length s ≡ 16 → bare_read at s ≡ Ok (DomainName (place at (length s)))
  unfolding bare_read
  domain_name h = simp (eq-eqb _ _ h)

  pub domain_is : (length s ≡ 16 → ⊥) → bare_read at s ≡ (or_refuse (number_of 127 s) (refusal 10 at (length s)) >>= λ n. Ok (DomainNumber n))
  unfolding bare_read
  domain_is h = simp (ne_eqb _ _ h)

pub domain_fits : (s : List ℕ) (n : ℕ) → number_of 127 s ≡ Ok n → n ≤ 127
domain_fits s n e = number_le 127 n s (sym e)

-- `read_gmid`
pub gmid_is : (at : ℕ) (s : List ℕ) → gmid_of at s ≡ gmid_or (eui64_of s) (refusal 9 at (length s))
unfolding gmid_of
gmid_is at s = refl

-- `read_gmid_domain`
with_domain : (x : Answer Eui64) (y : Answer PtpDomain)
    → (x >>= λ g. (y >>= λ d. Ok (Some d)) >>= λ d. Ok (GmidDomain g d)) ≡ (x >>= λ g. y >>= λ d. Ok (GmidDomain g (Some d)))
with_domain (Ok g) y = made_twice y Some (GmidDomain g)
with_domain (Err r) y = refl

module _ (at : ℕ) (s : List ℕ) (h : empty s ≡ false) (e : same s (word "traceable") ≡ false) where
  pub server_bare : length s ≤ before 58 s → server_of bare at s ≡ (gmid_of at s >>= λ g. Ok (GmidDomain g None))
  unfolding server_of domain_of
  server_bare l = simp (h, e, le-ltb _ _ l, take_all (before 58 s) s l)

  pub server_domain_lem : before 58 s < length s → server_of bare at s
      ≡ (gmid_of at (take (before 58 s) s) >>= λ g. bare_read (at + (before 58 s + 1)) (drop (before 58 s + 1) s) >>= λ d. Ok (GmidDomain g (Some d)))
  unfolding server_of domain_of
  server_domain_lem l = simp (h, e, lt-ltb _ _ l) (with_domain _ _)

-- `read_server`
module _ (at : ℕ) (s : List ℕ) (t : Bool) (et : t ≡ empty s) where
  pub server_empty : t ≡ true → (r : Refusal) → r ≡ refusal 8 at 0 → Err r ≡ server_of bare at s
  unfolding server_of
  server_empty h r er = simp (← et, h, er)

  module _ (h : t ≡ false) (u : Bool) (eu : u ≡ same s (word "traceable")) where
    pub server_traceable : u ≡ true → Ok Traceable ≡ server_of bare at s
    unfolding server_of
    server_traceable e = simp (← et, h, ← eu, e)

-- `read_ptp`
module _ (at : ℕ) (s : List ℕ) where
  pub ptp_no_colon : length s ≤ before 58 s → ptp_of bare at s ≡ refuse 7 at 0
  unfolding ptp_of
  ptp_no_colon h = simp (le-ltb _ _ h)

  pub ptp_parts : before 58 s < length s → ptp_of bare at s
      ≡ (version_of at (take (before 58 s) s) >>= λ v. server_of bare (at + (before 58 s + 1)) (drop (before 58 s + 1) s) >>= λ w. Ok (ptp v w))
  unfolding ptp_of
  ptp_parts h = simp (lt-ltb _ _ h)

pub ruleset laws = (
  version_empty,
  version_2002,
  version_2008,
  version_2011,
  version_own,
  domain_name,
  domain_is,
  domain_fits,
  gmid_is,
  server_bare,
  server_domain_lem,
  server_empty,
  server_traceable,
  ptp_no_colon,
  ptp_parts,
)
