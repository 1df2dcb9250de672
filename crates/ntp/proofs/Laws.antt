-- What each reader of the crate comes to on each way through it. Assumes nothing.
use Rattle.std.specs.Prelude.{Result, Option, Some, None, Ok, Err}
use Prim.Native.Nat.{ℕ, ◌+◌, ◌-◌, ◌≤◌, ◌<◌}
use mathlib.Core.Path.{◌≡◌, refl, sym, ap, ◌∙◌}
use mathlib.Core.List.{List}
use mathlib.Core.Bool.{Bool, true, false}
use native.Mathlib.Omega.{arith}
use lib.ListN.{length, take, drop, length-take, length-drop}
use lib.Seq.{drop-drop}
use borrow.Author.Tests.{eq-eqb, ne_eqb, lt-ltb, le-ltb}
use Rattle.text.specs.Find.{before_pair, through_last}
use Rattle.text.specs.Word.{word, same, starts, ends_in}
use Rattle.text.specs.Place.{place}
use Rattle.text.proofs.Left.{rest, rest_is}
use Rattle.text.proofs.Cuts.{pair_le, pair_whole, last_le, ends_some}
use Rattle.number.specs.Decimal.{number_of}
use Rattle.number.proofs.Laws.{number_le}
use Rattle.ipaddr.specs.Address.{ip_address}
use Rattle.clock.specs.Refusal.{refusal}
use Rattle.clock.specs.declared.Refusal.{Refusal}
use Rattle.clock.specs.declared.NtpServerAddr.TheVariants.{HostPort, Traceable}
use Rattle.meaning.specs.Answer.{refuse, ◌>>=◌, or_refuse, empty}
use Rattle.meaning.specs.ReferenceClock.{port_of, address_of, bracket_of, host_of, ntp_of}

-- `read_port`
pub port_read : (r : Refusal) (s : List ℕ) → port_of r s ≡ (or_refuse (number_of 65535 s) r >>= λ n. Ok (Some n))
unfolding port_of
port_read r s = refl

pub port_fits : (s : List ℕ) (n : ℕ) → number_of 65535 s ≡ Ok n → n ≤ 65535
port_fits s n e = number_le 65535 n s (sym e)

-- `read_address`
module _ (r : Refusal) (at : ℕ) (s : List ℕ) (port : Option ℕ) where
  pub address_is : ip_address s ≡ true → address_of r at s port ≡ Ok (HostPort (place at (length s)) port)
  unfolding address_of
  address_is e = simp e

  pub address_not : ip_address s ≡ false → address_of r at s port ≡ Err r
  unfolding address_of
  address_not e = simp e

-- `read_bracket`
pub pair_two : (s : List ℕ) → before_pair 93 58 s < length s → before_pair 93 58 s + 2 ≤ length s
pair_two s h = pair_whole 93 58 s h

pub ends_one : (s : List ℕ) → ends_in 93 s ≡ true → 1 ≤ length s
ends_one s e = ends_some 93 s e

module _ (at : ℕ) (s : List ℕ) where
  pub bracket_port : before_pair 93 58 (drop 1 s) < length (drop 1 s) → bracket_of at s
      ≡ (port_of (refusal 4 at (length s)) (drop (before_pair 93 58 (drop 1 s) + 2) (drop 1 s))
      >>= λ port. address_of (refusal 4 at (length s)) (at + 1) (take (before_pair 93 58 (drop 1 s)) (drop 1 s)) port)
  unfolding bracket_of
  bracket_port h = simp (lt-ltb _ _ h)

  module _ (h : length (drop 1 s) ≤ before_pair 93 58 (drop 1 s)) where
    pub bracket_bare : ends_in 93 (drop 1 s) ≡ true
        → bracket_of at s ≡ address_of (refusal 4 at (length s)) (at + 1) (take (length (drop 1 s) - 1) (drop 1 s)) None
    unfolding bracket_of
    bracket_bare e = simp (le-ltb _ _ h, e)

    pub bracket_open : ends_in 93 (drop 1 s) ≡ false → bracket_of at s ≡ refuse 4 at (length s)
    unfolding bracket_of
    bracket_open e = simp (le-ltb _ _ h, e)

-- `read_host`
pub host_within : (s : List ℕ) → through_last 58 s ≤ length s
host_within s = last_le 58 s

module _ (at : ℕ) (s : List ℕ) where
  pub host_bare : through_last 58 s ≡ 0 → host_of at s ≡ Ok (HostPort (place at (length s)) None)
  unfolding host_of
  host_bare e = simp (eq-eqb _ _ e)

  pub host_empty : through_last 58 s ≡ 1 → host_of at s ≡ refuse 5 at 0
  unfolding host_of
  host_empty e = simp e

  pub host_port : (through_last 58 s ≡ 0 → ⊥) → (through_last 58 s ≡ 1 → ⊥) → host_of at s
      ≡ (port_of (refusal 6 (at + through_last 58 s) (length s - through_last 58 s)) (drop (through_last 58 s) s)
      >>= λ port. Ok (HostPort (place at (through_last 58 s - 1)) port))
  unfolding host_of
  host_port e f = simp (ne_eqb _ _ e, ne_eqb _ _ f)

-- `read_ntp`
module _ (at : ℕ) (s : List ℕ) where
  pub ntp_empty : empty s ≡ true → ntp_of at s ≡ refuse 3 at 0
  unfolding ntp_of
  ntp_empty h = simp h

  module _ (h : empty s ≡ false) where
    pub ntp_traceable_lem : same s (word "/traceable/") ≡ true → ntp_of at s ≡ Ok Traceable
    unfolding ntp_of
    ntp_traceable_lem e = simp (h, e)

    module _ (e : same s (word "/traceable/") ≡ false) where
      pub ntp_address : ip_address s ≡ true → ntp_of at s ≡ Ok (HostPort (place at (length s)) None)
      unfolding ntp_of
      ntp_address f = simp (h, e, f)

      module _ (f : ip_address s ≡ false) where
        pub ntp_bracket : starts (word "[") s ≡ true → ntp_of at s ≡ bracket_of at s
        unfolding ntp_of
        ntp_bracket g = simp (h, e, f, g)

        pub ntp_host_lem : starts (word "[") s ≡ false → ntp_of at s ≡ host_of at s
        unfolding ntp_of
        ntp_host_lem g = simp (h, e, f, g)

pub ruleset laws = (
  port_read,
  port_fits,
  address_is,
  address_not,
  pair_two,
  ends_one,
  bracket_port,
  bracket_bare,
  bracket_open,
  length-take,
  length-drop,
  host_within,
  host_bare,
  host_empty,
  host_port,
  ntp_empty,
  ntp_traceable_lem,
  ntp_address,
  ntp_bracket,
  ntp_host_lem,
)
