-- What the code's shape says decides equality: a meaning comes back from what it says. Assumes nothing.
use Rattle.std.specs.Prelude.{Option, Some, None}
use Prim.Native.Nat.{ℕ, zero, suc}
use mathlib.Core.Path.{◌≡◌, refl, sym, ap, ◌∙◌}
use mathlib.Core.List.{List}
use mathlib.Core.Bool.{Bool, true, cond, ◌&&◌}
use lib.Dec.{eqb}
use borrow.Author.Tests.{eq-eqb, eqb-true}
use Rattle.text.specs.Word.{same}
use Rattle.text.proofs.Bools.{and_left, and_right, both}
use Rattle.text.proofs.Cuts.{same_eq, same_refl}
use Rattle.meaning.specs.Meaning.{Version, Server, Ratio, Tag, RefMeaning, MediaMeaning, SourceMeaning}
use Rattle.meaning.specs.Meaning as means
use Rattle.hosts.proofs.Owed.{servers_sorted}
use Rattle.equal.specs.Private.Flat.{Flat, says, version_kind, version_name, server_says, clock_says, tag_kind, tag_bytes, media_says, source_says}
use Rattle.equal.specs.Private.Flat.{same_numbers, same_behind, alike_flat}
use Rattle.equal.specs.Decides.{Decides}
use Rattle.equal.specs.Alike.{Hosts, hosts_alike, OneClock, equal, servers}
use Rattle.equal.specs.Private.Test.{alike}
use Rattle.equal.specs.Equality.{Equivalence, Yes, Classes}
use Rattle.equal.specs.Private.Test.{AlikeDecides}

-- what is said, with another head
abbrev headed : List ℕ → Flat → Flat
headed h x = says x.kind x.form x.first x.second x.third h x.name x.value

behind_self : (x : Flat) → same_behind x x ≡ true
unfolding same_behind same_numbers
behind_self x = simp (eqb_self, same_refl)
  where
    eqb_self : (n : ℕ) → eqb n n ≡ true
    eqb_self n = eq-eqb n n refl

-- the first of several tests, and the others
number_eq : (a b : ℕ) (t : Bool) → (eqb a b && t) ≡ true → (a ≡ b) × (t ≡ true)
number_eq a b t e = (eqb-true a b (and_left (eqb a b) t e), and_right (eqb a b) t e)

behind_eq : (x y : Flat) → same_behind x y ≡ true → headed y.head x ≡ y
unfolding same_behind same_numbers
behind_eq x y e =
    let texts = same x.name y.name && same x.value y.value in
    let t = and_right (same_numbers x y) texts e in
    let k = number_eq x.kind y.kind _ (and_left (same_numbers x y) texts e) in
    let f = number_eq x.form y.form _ k.1 in
    let a = number_eq x.first y.first _ f.1 in
    let b = number_eq x.second y.second _ a.1 in
    let c = eqb-true x.third y.third b.1 in
    let n = same_eq x.name y.name (and_left _ (same x.value y.value) t) in
    let v = same_eq x.value y.value (and_right (same x.name y.name) _ t) in
    let all : headed y.head x ≡ headed y.head y = cc (k.0, f.0, a.0, b.0, c, n, v) in
    all

-- what alike shapes tell: the heads are alike, and all else is equal
module _ (hosts : Hosts) (x y : Flat) (e : alike_flat hosts x y ≡ true) where
  alike_head : hosts x.head y.head ≡ true
  unfolding alike_flat
  alike_head = and_left (hosts x.head y.head) (same_behind x y) e

  alike_behind : headed y.head x ≡ y
  unfolding alike_flat
  alike_behind = behind_eq x y (and_right (hosts x.head y.head) (same_behind x y) e)

are_alike : (hosts : Hosts) (x : Flat) (g : List ℕ) → hosts x.head g ≡ true → alike_flat hosts x (headed g x) ≡ true
unfolding alike_flat same_behind same_numbers
are_alike hosts x g h = both h (behind_self x)

-- the meaning that says this
number_back : ℕ → Option ℕ
number_back zero = None
number_back (suc n) = Some n

abbrev bytes_back : ℕ → List ℕ → Option (List ℕ)
bytes_back k s = cond (eqb k 0) None (Some s)

abbrev version_back : ℕ → List ℕ → Version
version_back f s =
    cond (eqb f 0) means.ieee1588_2002 (cond (eqb f 1) means.ieee1588_2008 (cond (eqb f 2) means.ieee802_1as_2011 (means.own_version s)))

abbrev server_back : Flat → Server
server_back x =
    cond (eqb x.first 0) means.traceable
    (cond (eqb x.first 1) (means.gmid x.second None)
    (cond (eqb x.first 2) (means.gmid x.second (Some (means.name x.value)))
    (means.gmid x.second (Some (means.number x.third)))))

clock_back : Flat → RefMeaning
clock_back x =
    cond (eqb x.kind 0) means.ntp_traceable
    (cond (eqb x.kind 1) (means.ntp_host x.head (number_back x.first))
    (cond (eqb x.kind 2) (means.ptp (version_back x.form x.name) (server_back x))
    (cond (eqb x.kind 3) means.gps
    (cond (eqb x.kind 4) means.gal
    (cond (eqb x.kind 5) means.glonass
    (cond (eqb x.kind 6) means.local
    (cond (eqb x.kind 7) means.private_standard
    (cond (eqb x.kind 8) means.private_traceable
    (means.ref_ext x.name (bytes_back x.first x.value))))))))))

version_back_lem : (v : Version) → version_back (version_kind v) (version_name v) ≡ v
version_back_lem means.ieee1588_2002 = refl
version_back_lem means.ieee1588_2008 = refl
version_back_lem means.ieee802_1as_2011 = refl
version_back_lem (means.own_version s) = refl

ptp_back : (g : List ℕ) (v : Version) (s : Server) → means.ptp v s ≡ clock_back (headed g (server_says (version_kind v) (version_name v) s))
unfolding clock_back
ptp_back g v means.traceable = simp (version_back_lem v)
ptp_back g v (means.gmid n None) = simp (version_back_lem v)
ptp_back g v (means.gmid n (Some (means.name s))) = simp (version_back_lem v)
ptp_back g v (means.gmid n (Some (means.number d))) = simp (version_back_lem v)

-- with a head that is alike comes back a meaning of that clock: only a host is told by its head
module _ (hosts : Hosts) (g : List ℕ) where
  clock_back_lem : (m : RefMeaning) → hosts (clock_says m).head g ≡ true → OneClock hosts m (clock_back (headed g (clock_says m)))
  unfolding clock_back number_back
  clock_back_lem means.ntp_traceable e = equal refl
  clock_back_lem (means.ntp_host h None) e = servers h g None e refl refl
  clock_back_lem (means.ntp_host h (Some n)) e = servers h g (Some n) e refl refl
  clock_back_lem (means.ptp v s) e = equal (ptp_back g v s)
  clock_back_lem means.gps e = equal refl
  clock_back_lem means.gal e = equal refl
  clock_back_lem means.glonass e = equal refl
  clock_back_lem means.local e = equal refl
  clock_back_lem means.private_standard e = equal refl
  clock_back_lem means.private_traceable e = equal refl
  clock_back_lem (means.ref_ext n None) e = equal refl
  clock_back_lem (means.ref_ext n (Some v)) e = equal refl

-- where hosts are compared byte by byte, what means one clock is equal
pub one_equal : (m n : RefMeaning) → OneClock same m n → m ≡ n
one_equal m n (equal e) = e
one_equal m n (servers h g port e a b) = let f : h ≡ g = same_eq h g e in cc

clock_is_back : (n : RefMeaning) → clock_back (clock_says n) ≡ n
clock_is_back n = sym (one_equal n _ (clock_back_lem same (clock_says n).head n (same_refl (clock_says n).head)))

module _ (hosts : Hosts) (m n : RefMeaning) where
  alike_right : alike hosts m n ≡ true → OneClock hosts m n
  unfolding alike
  alike_right e =
      let x = clock_says m in
      let y = clock_says n in
      rw (ap clock_back (alike_behind hosts x y e) ∙ clock_is_back n) at (clock_back_lem hosts y.head m (alike_head hosts x y e))

  alike_found : ((h : List ℕ) → hosts h h ≡ true) → OneClock hosts m n → alike hosts m n ≡ true
  unfolding alike
  alike_found self (equal e) = rw e (are_alike hosts (clock_says n) (clock_says n).head (self (clock_says n).head))
  alike_found self (servers h g port e a b) = rw (a, b) (are_alike hosts (clock_says (means.ntp_host h port)) g e)

pub alike_decides : AlikeDecides
alike_decides hosts q m n = record { right = alike_right hosts m n; found = alike_found hosts m n q.to_self }

abbrev tag_back : ℕ → List ℕ → Option Tag
tag_back k t = cond (eqb k 0) None (cond (eqb k 1) (Some (means.plain_tag t)) (Some (means.src_tag t)))

abbrev rate_back : ℕ → ℕ → Option Ratio
rate_back zero d = None
rate_back (suc n) d = Some (means.ratio n d)

abbrev media_back : Flat → MediaMeaning
media_back x =
    cond (eqb x.kind 0) means.sender
    (cond (eqb x.kind 1) (means.direct (number_back x.first) (rate_back x.second x.third))
    (cond (eqb x.kind 2) (means.stream x.first)
    (means.media_ext x.name (bytes_back x.first x.value))))

source_back : Flat → SourceMeaning
source_back x = means.media_source (tag_back x.form x.head) (media_back x)

tag_back_lem : (t : Option Tag) → tag_back (tag_kind t) (tag_bytes t) ≡ t
tag_back_lem None = refl
tag_back_lem (Some (means.plain_tag t)) = refl
tag_back_lem (Some (means.src_tag t)) = refl

media_back_lem : (f : ℕ) (t : List ℕ) (m : MediaMeaning) → source_back (media_says f t m) ≡ means.media_source (tag_back f t) m
unfolding source_back number_back
media_back_lem f t means.sender = refl
media_back_lem f t (means.direct None None) = refl
media_back_lem f t (means.direct None (Some (means.ratio n d))) = refl
media_back_lem f t (means.direct (Some k) None) = refl
media_back_lem f t (means.direct (Some k) (Some (means.ratio n d))) = refl
media_back_lem f t (means.stream n) = refl
media_back_lem f t (means.media_ext n None) = refl
media_back_lem f t (means.media_ext n (Some v)) = refl

source_back_lem : (m : SourceMeaning) → source_back (source_says m) ≡ m
source_back_lem (means.media_source id clock) =
    media_back_lem (tag_kind id) (tag_bytes id) clock ∙ ap (λ (t : Option Tag). means.media_source t clock) (tag_back_lem id)

said_eq : (x y : Flat) → alike_flat same x y ≡ true → x ≡ y
said_eq x y e =
    let h = same_eq x.head y.head (alike_head same x y e) in
    ap (λ (g : List ℕ). headed g x) h ∙ alike_behind same x y e

-- hosts sort into classes, and clocks as their hosts do
hosts_classes : Equivalence (Yes hosts_alike)
unfolding hosts_alike
hosts_classes = record { to_self = servers_sorted.to_self; back = servers_sorted.back; on = servers_sorted.on }

module _ (hosts : Hosts) (q : Equivalence (Yes hosts)) where
  one_back : (a b : RefMeaning) → OneClock hosts a b → OneClock hosts b a
  one_back a b (equal e) = equal (sym e)
  one_back a b (servers h g port e x y) = servers g h port (q.back h g e) y x

  one_on : (a b c : RefMeaning) → OneClock hosts a b → OneClock hosts b c → OneClock hosts a c
  one_on a b c (equal e) y = rw e y
  one_on a b c (servers h g port e x y) (equal f) = servers h g port e x (sym f ∙ y)
  one_on a b c (servers h g port e x y) (servers i j other f z w) =
      let k : g ≡ i = cc in
      let p : port ≡ other = cc in
      servers h j port (q.on h g j e (rw k f)) x (rw p w)

pub classes : Classes
classes =
    record {
      of_hosts = hosts_classes;
      of_clocks = λ hosts q.
          record { to_self = λ a. equal refl; back = one_back hosts q; on = one_on hosts q };
    }

-- what the two equalities decide
pub clocks_decide : (m n : RefMeaning) → Decides (alike same m n) (m ≡ n)
clocks_decide m n =
    record {
      right = λ e. one_equal m n (alike_right same m n e);
      found = λ e. alike_found same m n same_refl (equal e);
    }

pub sources_decide : (m n : SourceMeaning) → Decides (alike_flat same (source_says m) (source_says n)) (m ≡ n)
sources_decide m n =
    let x = source_says m in
    let y = source_says n in
    record {
      right = λ e. sym (source_back_lem m) ∙ ap source_back (said_eq x y e) ∙ source_back_lem n;
      found = λ e. rw e (are_alike same y y.head (same_refl y.head));
    }
