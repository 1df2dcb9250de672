-- A PTP source with one of the RFC's domains. Assumes nothing.
use Rattle.std.specs.Prelude.{Some, Ok, Err}
use Prim.Native.Nat.{ℕ, ◌+◌, ◌≤◌}
use mathlib.Core.Path.{◌≡◌, refl, ◌∙◌}
use mathlib.Core.Bool.{true}
use mathlib.Core.List.{List, [], ◌∷◌, ◌++◌}
use native.Mathlib.Omega.{arith}
use lib.ListN.{length, drop, length-append}
use borrow.Author.Tests.{ne_eqb, eq-eqb}
use Rattle.text.specs.Word.{word, same}
use Rattle.text.specs.Place.{place}
use Rattle.text.proofs.Laws.{same_lengths}
use Rattle.abnf.proofs.Free.{free_laws}
use Rattle.number.specs.Decimal.{number_of}
use Rattle.number.specs.declared.Reason.TheVariants.{Digit}
use Rattle.number.proofs.Written.{number_not}
use Rattle.utf8.specs.Utf8.{utf8_of}
use Rattle.utf8.proofs.Text.{utf8_ascii, utf8_append, utf8_all_ascii}
use Rattle.clock.specs.Records as made
use Rattle.clock.specs.declared.PtpVersion.{PtpVersion}
use Rattle.clock.specs.declared.PtpDomain.{PtpDomain}
use Rattle.clock.specs.declared.PtpDomain.TheVariants.{DomainName}
use Rattle.clock.specs.declared.PtpServer.TheVariants.{GmidDomain}
use Rattle.clock.specs.declared.ReferenceClock.{ReferenceClock}
use Rattle.clock.specs.declared.ReferenceClock.TheVariants as clock
use Rattle.meaning.specs.Answer.{Answer, refuse, ◌>>=◌}
use Rattle.meaning.specs.Domain.{bare, bare_read}
use Rattle.meaning.specs.ReferenceClock.{version_of, gmid_of, domain_of, server_of, ptp_of, clock_of, reference_clock_of, read_reference_clock}
use Rattle.meaning.specs.Meaning.{Version, name, gmid, ptp, version_means, ref_meaning}
use Rattle.meaning.proofs.Told.{guarded_well, joined, further, bytes_front, bytes_all}
use Rattle.rfc7273.specs.Manner.{narrowed}
use Rattle.rfc7273.specs.Kinds.{refused_with, ref_says}
use Rattle.rfc7273.specs.Grammar.{eui64, ptp_domain_dgts, ptp_domain}
use Rattle.rfc7273.specs.Means.{hex_value_from, VersionText}
use Rattle.rfc7273.specs.Taken.{RefReads, with_domain, Domains}
use Rattle.rfc7273.proofs.Laws.{Reads, of_or, of_quoted_then, lacks_quoted, lacks_before, high_range, high_word, Low, low_well}
use Rattle.rfc7273.proofs.Parts.{eui_read}
use Rattle.rfc7273.proofs.Ptp.{version_read, eui_colon, eui_low}
use Rattle.rfc7273.proofs.Reference.{by_rules}

domain_low : Low (ptp_domain narrowed)
unfolding ptp_domain ptp_domain_dgts
domain_low c h = search (free_laws, lacks_quoted, high_range, high_word) depth 30

-- it begins with a letter, so that it is no number
domain_no_number : (d : List ℕ) → ptp_domain narrowed d ≡ true → Err Digit ≡ number_of 127 d
unfolding ptp_domain
domain_no_number =
    of_or P (of_quoted_then P _ "domain-name=" (λ y h. number_not 127 100 [] (word "omain-name=" ++ y) refl (λ e. omega arith)))
    (of_quoted_then P _ "domain-nmbr=" (λ y h. number_not 127 100 [] (word "omain-nmbr=" ++ y) refl (λ e. omega arith)))
  where
    P : List ℕ → Type 0
    P d = Err Digit ≡ number_of 127 d

module _ (v g d : List ℕ) (a : Version) (t : VersionText v a) (hg : eui64 g ≡ true) where
  abbrev value : List ℕ
  value = with_domain v g d

  abbrev server : List ℕ
  server = g ++ 58 ∷ d

  -- where the server starts, and the domain
  abbrev at : ℕ
  at = 4 + (length v + 1)

  server_at : drop at value ≡ server
  server_at = further value 4 (length v + 1) (v ++ 58 ∷ server) refl ∙ (joined 58 v server (version_read t).free).behind

  domain_at : drop (at + (length g + 1)) value ≡ d
  domain_at = further value at (length g + 1) server server_at ∙ (joined 58 g d (lacks_before eui_colon g hg)).behind

  version : Reads (version_of 4 v) (version_means value) a
  version = (version_read t).read 4 value (bytes_front value 4 v (58 ∷ server) refl)

  -- what is read, of what the domain is read as
  abbrev source : PtpVersion → Answer PtpDomain → Answer ReferenceClock
  source w x =
      x >>= (λ e. Ok (Some e)) >>= (λ o. Ok (GmidDomain (made.eui64 (hex_value_from 0 g)) o)) >>= (λ r. Ok (made.ptp w r))
      >>= λ p. Ok (clock.Ptp p)

  source_is : (w : PtpVersion) → version_of 4 v ≡ Ok w → clock_of bare value ≡ source w (bare_read (at + (length g + 1)) d)
  unfolding clock_of ptp_of server_of gmid_of domain_of same
  source_is w f =
      let i = joined 58 v server (version_read t).free in
      let j = joined 58 g d (lacks_before eui_colon g hg) in
      let e = eui_read g hg in
      simp (
        i.first,
        i.found,
        i.front,
        i.behind,
        f,
        ne_eqb (length server) 0 (λ z. omega (arith, e.long, length-append g (58 ∷ d))),
        ← same_lengths server (word "traceable") (λ z. omega (arith, e.long, length-append g (58 ∷ d))),
        j.first,
        j.found,
        j.front,
        j.behind,
        e.read,
      )

  module _ (hd : ptp_domain narrowed d ≡ true) (l : length value ≤ 1024) where
    well : utf8_of value ≡ (Ok tt)
    well =
        utf8_append (word "ptp=") (v ++ 58 ∷ server) (utf8_all_ascii (word "ptp=") refl)
        (utf8_append v (58 ∷ server) (version_read t).well
        (utf8_ascii 58 server (omega arith)
        (utf8_append g (58 ∷ d) (low_well eui_low g hg) (utf8_ascii 58 d (omega arith) (low_well domain_low d hd)))))

    named : length d ≡ 16 → RefReads value (ptp a (gmid (hex_value_from 0 g) (Some (name d))))
    unfolding bare_read ref_meaning
    named e =
        by_rules value (ptp a (gmid (hex_value_from 0 g) (Some (name d))))
        (clock.Ptp (made.ptp version.made (GmidDomain (made.eui64 (hex_value_from 0 g)) (Some (DomainName (place (at + (length g + 1)) (length d)))))))
        well (source_is version.made version.is ∙ simp (eq-eqb (length d) 16 e))
        (rw (version.tells, bytes_all value (at + (length g + 1)) d domain_at)) l

    refused : (length d ≡ 16 → ⊥) → ref_says value ≡ refused_with 10
    unfolding ref_says read_reference_clock reference_clock_of
    refused n = rw (guarded_well value (clock_of bare value) l well, is)
      where
        is : clock_of bare value ≡ refuse 10 (at + (length g + 1)) (length d)
        is = source_is version.made version.is ∙ unfold bare_read in simp (ne_eqb (length d) 16 n, ← domain_no_number d hd)

pub domains : Domains
domains v g d a given =
    record {
      named = named v g d a given.version given.is_gmid given.is_domain given.short;
      refused = refused v g d a given.version given.is_gmid given.is_domain given.short;
    }
