-- The laws of those ways out of the functions that write ts-refclk for which `room`'s of puts do not suffice. Assumes nothing.
use Rattle.std.specs.Prelude.{Some}
use Rattle.std.proofs.Common.{◌≡◌, ℕ, ◌+◌, ◌*◌, ◌<◌, ◌≤◌, List, ◌∷◌, [], length, arith}
use borrow.Author.Tests.{lt-ltb, le-ltb}
use Rattle.text.specs.Word.{word}
use Rattle.text.specs.Find.{before}
use Rattle.clock.specs.declared.PtpServer.{PtpServer}
use Rattle.clock.specs.declared.PtpVersion.{PtpVersion}
use Rattle.clock.specs.declared.PtpVersion.TheVariants.{Ieee8021As_2011}
use Rattle.meaning.specs.Domain.{bare}
use Rattle.meaning.specs.Meaning.{ptp, version_means, server_means}
use Rattle.number.specs.Decimal.{decimal}
use Rattle.meaning.specs.Text.{host_text, version_text, server_text, ref_meaning_text}
use Rattle.room.specs.Put.{Put}
use Rattle.room.proofs.Laws.{put_then, put_wider}

-- `put_host_and_port`
module _ {l : List ℕ} {at last : ℕ} {r : List ℕ} (host : List ℕ) where
  pub host_bracketed : {a b c : ℕ} {k m n : List ℕ} (port x : ℕ) → x ≡ before 58 host → x < length host → Put 1 l at (91 ∷ []) a k
      → Put (length host) k a host b m → Put 1 m b (93 ∷ []) c n → Put 11 n c (58 ∷ decimal port) last r
      → Put (length host + 13) l at (host_text host (Some port)) last r
  host_bracketed port x e h p q s t =
      rw (lt-ltb (before 58 host) (length host) (omega (arith, e))) (put_wider (put_then p (put_then q (put_then s t))) (omega arith))

  pub host_plain : {a : ℕ} {m : List ℕ} (port x : ℕ) → x ≡ before 58 host → length host ≤ x → Put (length host) l at host a m
      → Put 11 m a (58 ∷ decimal port) last r → Put (length host + 13) l at (host_text host (Some port)) last r
  host_plain port x e h p q = rw (le-ltb (before 58 host) (length host) (omega (arith, e))) (put_wider (put_then p q) (omega arith))

module _ (v : List ℕ) {l : List ℕ} {at last : ℕ} {r : List ℕ} where
  -- `put_version`
  pub version_2011 : (x : PtpVersion) → x ≡ Ieee8021As_2011 → Put 16 l at (word "IEEE802.1AS-2011") last r
      → Put (length v + 16) l at (version_text (version_means v x)) last r
  version_2011 x e f = rw e (put_wider f (omega arith))

  -- `put_ptp`
  pub ptp_put : {a b c : ℕ} {k m n : List ℕ} (x : PtpVersion) (y : PtpServer) → Put 4 l at (word "ptp=") a k
      → Put (length v + 16) k a (version_text (version_means v x)) b m → Put 1 m b (58 ∷ []) c n
      → Put (length v + 34) n c (server_text bare (server_means v y)) last r
      → Put (2 * length v + 55) l at (ref_meaning_text bare (ptp (version_means v x) (server_means v y))) last r
  unfolding ref_meaning_text
  ptp_put x y f g h i = put_wider (put_then f (put_then g (put_then h i))) (omega arith)

pub ruleset laws = (host_bracketed, host_plain, version_2011, ptp_put)
