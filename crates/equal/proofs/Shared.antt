-- What means one clock shares a fingerprint, which has 32 bits. Assumes nothing.
use Rattle.std.specs.Prelude.{Option, Some, None}
use Prim.Native.Nat.{ℕ, ◌<◌}
use native.Mathlib.Omega.{arith}
use mathlib.Core.Path.{◌≡◌, refl, sym, ap}
use mathlib.Core.List.{List, [], ◌∷◌}
use Rattle.hostprint.specs.Mixed.{mixed, mixed_text}
use Rattle.hostprint.proofs.Shared.{print_shared}
use Rattle.meaning.specs.Meaning.{Server, RefMeaning}
use Rattle.meaning.specs.Meaning as means
use Rattle.equal.specs.Alike.{hosts_alike, equal, servers}
use Rattle.equal.specs.Fingerprint.{mixed_numbers, host_print, columns, server_print, fingerprint}
use Rattle.equal.specs.Fingerprint.{FingerprintShared, HostPrintShared, OneClockShares, FingerprintSmall}
use Rattle.equal.specs.Private.Flat.{Flat, server_says, clock_says}

-- of a host only its print goes in
host_shared : (print : List ℕ → ℕ) (h g : List ℕ) (port : Option ℕ) → print h ≡ print g
    → fingerprint print (means.ntp_host h port) ≡ fingerprint print (means.ntp_host g port)
unfolding fingerprint
host_shared print h g None e = simp e
host_shared print h g (Some n) e = simp e

pub fingerprint_shared : FingerprintShared
fingerprint_shared hosts print share m n (equal e) = ap (fingerprint print) e
fingerprint_shared hosts print share m n (servers h g port e a b) = rw (a, b) (host_shared print h g port (share h g e))

pub host_print_shared : HostPrintShared
unfolding hosts_alike host_print
host_print_shared h g e = print_shared h g e

pub one_clock_shares : OneClockShares
one_clock_shares = fingerprint_shared hosts_alike host_print host_print_shared

-- the code's shape has the same columns
abbrev pub flat_print : (List ℕ → ℕ) → Flat → ℕ
flat_print print x = columns (print x.head) x.name x.kind x.form x.first x.second x.third x.value

module _ (print : List ℕ → ℕ) where
  server_print_lem : (f : ℕ) (n : List ℕ) (s : Server) → flat_print print (server_says f n s) ≡ server_print (print []) f n s
  server_print_lem f n means.traceable = refl
  server_print_lem f n (means.gmid g None) = refl
  server_print_lem f n (means.gmid g (Some (means.name s))) = refl
  server_print_lem f n (means.gmid g (Some (means.number d))) = refl

  pub flat_print_lem : (m : RefMeaning) → flat_print print (clock_says m) ≡ fingerprint print m
  unfolding fingerprint
  flat_print_lem means.ntp_traceable = refl
  flat_print_lem (means.ntp_host h None) = refl
  flat_print_lem (means.ntp_host h (Some n)) = refl
  flat_print_lem (means.ptp means.ieee1588_2002 s) = server_print_lem 0 [] s
  flat_print_lem (means.ptp means.ieee1588_2008 s) = server_print_lem 1 [] s
  flat_print_lem (means.ptp means.ieee802_1as_2011 s) = server_print_lem 2 [] s
  flat_print_lem (means.ptp (means.own_version own) s) = server_print_lem 3 own s
  flat_print_lem means.gps = refl
  flat_print_lem means.gal = refl
  flat_print_lem means.glonass = refl
  flat_print_lem means.local = refl
  flat_print_lem means.private_standard = refl
  flat_print_lem means.private_traceable = refl
  flat_print_lem (means.ref_ext n None) = refl
  flat_print_lem (means.ref_ext n (Some v)) = refl

mixed_small : (n k : ℕ) → mixed n k < 4294967296
unfolding mixed
mixed_small n k = omega arith

text_small : (n : ℕ) (s : List ℕ) → n < 4294967296 → mixed_text n s < 4294967296
unfolding mixed_text
text_small n [] h = h
text_small n (b ∷ s) h = text_small (mixed n b) s (mixed_small n b)

pub fingerprint_small : FingerprintSmall
unfolding columns mixed_numbers
fingerprint_small print m = rw (sym (flat_print_lem print m)) (text_small _ (clock_says m).value (mixed_small _ _))
