-- PTP: a version, and a server without a domain. Assumes nothing.
use Rattle.std.specs.Prelude.{None, Ok}
use Prim.Native.Nat.{ℕ, ◌+◌}
use mathlib.Core.Path.{◌≡◌, refl}
use mathlib.Core.List.{List, ◌∷◌, ◌++◌}
use native.Mathlib.Omega.{arith}
use lib.ListN.{length, drop}
use lib.Seq.{take-length}
use borrow.Author.Tests.{ne_eqb, le-ltb}
use Rattle.text.specs.Find.{before}
use Rattle.text.specs.Word.{word, same}
use Rattle.text.specs.Place.{place, bytes_at}
use Rattle.text.proofs.Bools.{neither}
use Rattle.text.proofs.Laws.{same_lengths}
use Rattle.abnf.proofs.Free.{Lacks, free_laws}
use Rattle.abnf.proofs.Sizes.{count_of}
use Rattle.utf8.specs.Utf8.{utf8_of}
use Rattle.utf8.proofs.Text.{utf8_ascii, utf8_append, utf8_all_ascii}
use Rattle.ipaddr.specs.Address.{hexdig}
use Rattle.clock.specs.Records as made
use Rattle.clock.specs.declared.PtpVersion.TheVariants as version
use Rattle.clock.specs.declared.PtpServer.TheVariants as source
use Rattle.meaning.specs.Domain.{bare}
use Rattle.meaning.specs.ReferenceClock.{version_of, gmid_of, domain_of, server_of, ptp_of}
use Rattle.meaning.specs.Meaning as means
use Rattle.meaning.specs.Meaning.{version_means, server_means}
use Rattle.meaning.proofs.Ptp.{ptp_means}
use Rattle.meaning.proofs.Told.{joined, bytes_front}
use Rattle.rfc7273.specs.Manner.{narrowed}
use Rattle.rfc7273.specs.Grammar.{eui64, ptp_version}
use Rattle.rfc7273.specs.Means.{hex_value_from, VersionText, text_2002, text_2008, text_2011, token_text, ServerText, gmid_text, traceable_text}
use Rattle.rfc7273.proofs.Laws.{Reads, lacks_quoted, lacks_before, high_range, high_word, Low, low_well, not_so}
use Rattle.rfc7273.proofs.Parts.{eui_read}
use Rattle.rfc7273.proofs.Extension.{token_colon, token_low, token_some}
use Rattle.rfc7273.proofs.Texts.{version_text_lem}

-- a version, where its bytes stand in a value; it is cut off at the first ":"
pub record Version (x : List ℕ) (m : means.Version) : Type 0 where
  pub free : before 58 x ≡ length x
  pub well : utf8_of x ≡ (Ok tt)
  pub read : (at : ℕ) (w : List ℕ) → bytes_at (place at (length x)) w ≡ x → Reads (version_of at x) (version_means w) m

version_colon : Lacks 58 (ptp_version narrowed)
unfolding ptp_version count_of
version_colon = search (free_laws, lacks_quoted, token_colon) depth 10

version_low : Low (ptp_version narrowed)
unfolding ptp_version
version_low c h = search (free_laws, lacks_quoted, high_word, token_low) depth 10

version_reads : {x : List ℕ} {m : means.Version} → VersionText x m → (at : ℕ) (w : List ℕ) → bytes_at (place at (length x)) w ≡ x
    → Reads (version_of at x) (version_means w) m
unfolding version_of same
version_reads text_2002 at w q = record { made = version.Ieee1588_2002; is = refl; tells = refl }
version_reads text_2008 at w q = record { made = version.Ieee1588_2008; is = refl; tells = refl }
version_reads text_2011 at w q = record { made = version.Ieee8021As_2011; is = refl; tells = refl }
version_reads (token_text s h k) at w q =
    let a = neither (same s (word "IEEE1588-2002")) _ (not_so _ k) in
    let b = neither (same s (word "IEEE1588-2008")) (same s (word "IEEE802.1AS-2011")) a.1 in
    record {
      made = version.Ext (place at (length s));
      is = simp (ne_eqb (length s) 0 (λ z. omega (arith, token_some s h)), a.0, b.0, b.1);
      tells = rw q;
    }

pub version_read : {x : List ℕ} {m : means.Version} → VersionText x m → Version x m
version_read {x} {m} t =
    record {
      free = lacks_before version_colon x (version_text_lem t);
      well = low_well version_low x (version_text_lem t);
      read = version_reads t;
    }

pub eui_colon : Lacks 58 eui64
unfolding eui64 hexdig
eui_colon = search free_laws depth 20

pub eui_low : Low eui64
unfolding eui64 hexdig
eui_low c h = search (free_laws, high_range) depth 20

-- a server, wherever it stands
record Server (s : List ℕ) (m : means.Server) : Type 0 where
  well : utf8_of s ≡ (Ok tt)
  read : (at : ℕ) (w : List ℕ) → Reads (server_of bare at s) (server_means w) m

server_read : {s : List ℕ} {m : means.Server} → ServerText s m → Server s m
unfolding server_of gmid_of domain_of same
server_read (gmid_text g h) =
    let e = eui_read g h in
    record {
      well = low_well eui_low g h;
      read = λ at w.
          record {
            made = source.GmidDomain (made.eui64 (hex_value_from 0 g)) None;
            is = simp (
              ne_eqb (length g) 0 (λ z. omega (arith, e.long)),
              ← same_lengths g (word "traceable") (λ z. omega (arith, e.long)),
              lacks_before eui_colon g h,
              take-length g,
              e.read,
              le-ltb (length g) (length g) (omega arith),
            );
            tells = refl;
          };
    }
server_read traceable_text =
    record { well = utf8_all_ascii (word "traceable") refl; read = λ at w. record { made = source.Traceable; is = refl; tells = refl } }

-- a version, ":" and a server
pub record Source (s : List ℕ) (m : means.RefMeaning) : Type 0 where
  pub well : utf8_of s ≡ (Ok tt)
  pub read : (at : ℕ) (w : List ℕ) → drop at w ≡ s → Reads (ptp_of bare at s) (ptp_means w) m

pub ptp_read : {x s : List ℕ} {a : means.Version} {b : means.Server} → VersionText x a → ServerText s b → Source (x ++ 58 ∷ s) (means.ptp a b)
unfolding ptp_of
ptp_read {x} {s} {a} {b} t u =
    let f = version_read t in
    let g = server_read u in
    let j = joined 58 x s f.free in
    record {
      well = utf8_append x (58 ∷ s) f.well (utf8_ascii 58 s (omega arith) g.well);
      read = λ at w q.
          let v = f.read at w (bytes_front w at x (58 ∷ s) q) in
          let r = g.read (at + (length x + 1)) w in
          record {
            made = made.ptp v.made r.made;
            is = simp (j.first, j.found, j.front, j.behind, v.is, r.is);
            tells = rw (v.tells, r.tells);
          };
    }
