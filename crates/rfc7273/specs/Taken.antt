-- What is owed to the RFC's texts. `proofs/Whole.antt` and `proofs/Domain.antt` prove the statements.
use Rattle.std.specs.Prelude.{ℕ, ◌≤◌, ◌≡◌, true, List, ◌++◌, length, Ok, Some}
use Rattle.text.specs.Word.{word}
use Rattle.abnf.specs.Rule.{Rule}
use Rattle.clock.specs.declared.ReferenceClock.{ReferenceClock}
use Rattle.mediarecord.specs.declared.MediaClockSource.{MediaClockSource}
use Rattle.meaning.specs.ReferenceClock.{read_reference_clock}
use Rattle.meaning.specs.MediaClock.{read_media_clock_source}
use Rattle.meaning.specs.Meaning.{Version, name, gmid, RefMeaning, ptp, ref_meaning, SourceMeaning, media_meaning}
use Rattle.rfc7273.specs.Manner.{Manner, published, narrowed}
use Rattle.rfc7273.specs.Kinds.{Says, accepted_as, refused_with, ref_kind, ref_says, source_kind, media_says}
use Rattle.rfc7273.specs.Grammar.{eui64, ptp_domain, clksrc, clksrc_of, mediaclk, mediaclk_of}
use Rattle.rfc7273.specs.Means.{hex_value_from, VersionText, RefText, SourceText}

-- of two rules: each text of p is one of q
abbrev pub Narrower : Rule → Rule → Type 0
Narrower p q = (s : List ℕ) → p s ≡ true → q s ≡ true

-- the text s is accepted, as a record that means m
pub record RefReads (s : List ℕ) (m : RefMeaning) : Type 0 where
  pub clock : ReferenceClock
  pub accepted : read_reference_clock s ≡ Ok clock
  pub means : ref_meaning s clock ≡ m

pub record MediaReads (s : List ℕ) (m : SourceMeaning) : Type 0 where
  pub source : MediaClockSource
  pub accepted : read_media_clock_source s ≡ Ok source
  pub means : media_meaning s source ≡ m

-- the text s has a meaning of the kind k
pub record Meant {K M : Type 0} (Means : List ℕ → M → Type 0) (kind : M → K) (k : K) (s : List ℕ) : Type 0 where
  pub meaning : M
  pub text : Means s meaning
  pub of_kind : kind meaning ≡ k

module _ {K M : Type 0} (whole : Manner → Rule) (alternative : Manner → K → Rule) (Means : List ℕ → M → Type 0) (kind : M → K)
    (Reads : List ℕ → M → Type 0) (says : List ℕ → Says K) where
  pub record Owed : Type 0 where
    -- every narrowed text of an alternative has a meaning of that alternative's kind, and a text with a meaning is one of its kind's alternative
    pub meant : (k : K) (s : List ℕ) → alternative narrowed k s ≡ true → Meant Means kind k s
    pub taken : (s : List ℕ) (m : M) → Means s m → alternative narrowed (kind m) s ≡ true
    -- a text of at most 1,024 bytes that means m is accepted, as a record that means m
    pub read : (s : List ℕ) (m : M) → Means s m → length s ≤ 1024 → Reads s m
    -- so it means nothing else, and is accepted as its alternative's kind
    pub once : (s : List ℕ) (m n : M) → Means s m → Means s n → length s ≤ 1024 → m ≡ n
    pub accepted : (k : K) (s : List ℕ) → alternative narrowed k s ≡ true → length s ≤ 1024 → says s ≡ accepted_as k
    -- a narrowed text is a published one
    pub narrower : (k : K) → Narrower (alternative narrowed k) (alternative published k)
    -- a text of the whole grammar is one of an alternative, and the other way round
    pub covered : (m : Manner) (s : List ℕ) → whole m s ≡ true → (k : K) × (alternative m k s ≡ true)
    pub covers : (m : Manner) (k : K) → Narrower (alternative m k) (whole m)

abbrev pub RefOwed : Type 0
RefOwed = Owed clksrc clksrc_of RefText ref_kind RefReads ref_says

abbrev pub MediaOwed : Type 0
MediaOwed = Owed mediaclk mediaclk_of SourceText source_kind MediaReads media_says

-- the one part of the RFC's grammar that reading does not have: a PTP source of the version v and the GMID g with a domain d
abbrev pub with_domain : List ℕ → List ℕ → List ℕ → List ℕ
with_domain v g d = word "ptp=" ++ (v ++ (word ":" ++ (g ++ (word ":" ++ d))))

module _ (v g d : List ℕ) (a : Version) where
  pub record DomainGiven : Type 0 where
    pub version : VersionText v a
    pub is_gmid : eui64 g ≡ true
    pub is_domain : ptp_domain narrowed d ≡ true
    pub short : length (with_domain v g d) ≤ 1024

  -- a domain of 16 bytes is read as a name of just these bytes, any other is refused
  pub record DomainRead : Type 0 where
    pub named : length d ≡ 16 → RefReads (with_domain v g d) (ptp a (gmid (hex_value_from 0 g) (Some (name d))))
    pub refused : (length d ≡ 16 → ⊥) → ref_says (with_domain v g d) ≡ refused_with 10

abbrev pub Domains : Type 0
Domains = (v g d : List ℕ) (a : Version) → DomainGiven v g d a → DomainRead v g d a
