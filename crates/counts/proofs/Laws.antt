-- One law for each way out of the crate's functions, and what a call does by its outcome. Assumes nothing.
use Prim.Native.Nat.{ℕ, ◌-◌, ◌≤◌, ◌<◌}
use mathlib.Core.Path.{◌≡◌, refl, sym, ◌∙◌}
use mathlib.Core.List.{List}
use lib.ListN.{get_or, set, replicate}
use borrow.Author.Tests.{lt-ltb, le-ltb}
use Rattle.streams.specs.declared.Uncounted.{Uncounted}
use Rattle.clock.specs.declared.ReferenceClock.{ReferenceClock}
use Rattle.naming.specs.Domain.{or_none, domain_in}
use Rattle.counts.specs.declared.Census.{Census}
use Rattle.counts.specs.declared.Called.{Called}
use Rattle.counts.specs.State.{census, fresh_census, plus, more, less, one_more, one_less, domain_count}
use Rattle.counts.specs.Outcome.{done_with, refused_with, Outcome, leaves, refuses, Does}

pub fresh : census 0 0 0 (replicate 128 0) ≡ fresh_census
unfolding fresh_census
fresh = refl

-- `add_to_domain`, `take_from_domain`
module _ (c : Census) (d n : ℕ) where
  pub more_at : d < 128 → (r : ℕ) → r ≡ plus (get_or c.domains d 0) n
      → census c.used c.total c.refused (set c.domains d r) ≡ census c.used c.total c.refused (more d n c.domains)
  unfolding more
  more_at h r e = simp (lt-ltb d 128 h, e)

  pub more_none : 128 ≤ d → c ≡ census c.used c.total c.refused (more d n c.domains)
  unfolding more
  more_none h = simp (le-ltb d 128 h)

  pub less_at : d < 128 → (r : ℕ) → r ≡ get_or c.domains d 0 - n
      → census c.used c.total c.refused (set c.domains d r) ≡ census c.used c.total c.refused (less d n c.domains)
  unfolding less
  less_at h r e = simp (lt-ltb d 128 h, e)

  pub less_none : 128 ≤ d → c ≡ census c.used c.total c.refused (less d n c.domains)
  unfolding less
  less_none h = simp (le-ltb d 128 h)

-- `one_more`, `one_less`
module _ (c : Census) (k : ReferenceClock) (d : ℕ) (ed : d ≡ or_none (domain_in k)) (a : Census) (t : ℕ) where
  pub one_more_lem : a ≡ census c.used c.total c.refused (more d 1 c.domains) → t ≡ plus c.total 1
      → census a.used t a.refused a.domains ≡ one_more (or_none (domain_in k)) c
  unfolding one_more
  one_more_lem ea et = cc (ed, ea, et)

  pub one_less_lem : a ≡ census c.used c.total c.refused (less d 1 c.domains) → t ≡ c.total - 1
      → census a.used t a.refused a.domains ≡ one_less (or_none (domain_in k)) c
  unfolding one_less
  one_less_lem ea et = cc (ed, ea, et)

-- `in_domain`
module _ (c : Census) (d : ℕ) where
  pub domain_none : 128 ≤ d → 0 ≡ domain_count c d
  unfolding domain_count
  domain_none h = simp (le-ltb d 128 h)

  pub domain_at : d < 128 → get_or c.domains d 0 ≡ domain_count c d
  unfolding domain_count
  domain_at h = simp (lt-ltb d 128 h)

pub ruleset laws = (
  fresh,
  more_at,
  more_none,
  less_at,
  less_none,
  one_more_lem,
  one_less_lem,
  domain_none,
  domain_at,
)

-- what a call does, by its outcome
module _ {o : Outcome} {c : Census} {m : List ℕ} {r : Called} where
  pub does_refuse : {why : Uncounted} → o ≡ refuses why → r ≡ refused_with c why → Does o c m r m
  does_refuse e f = rw e (record { result = f; memory = refl })

  pub does_leave : {c' : Census} {m' m'' : List ℕ} → o ≡ leaves c' m' → r ≡ done_with c' → m'' ≡ m' → Does o c m r m''
  does_leave e f g = rw e (record { result = f; memory = g })

  pub does_same : {p : Outcome} {m' : List ℕ} → o ≡ p → Does p c m r m' → Does o c m r m'
  does_same e w = rw e w

-- one outcome is one result and one memory
pub does_settled : {o : Outcome} {c : Census} {m : List ℕ} {q r : Called} {m₁ m₂ : List ℕ} → Does o c m q m₁ → Does o c m r m₂
    → (q ≡ r) × (m₁ ≡ m₂)
does_settled a b = (a.result ∙ sym b.result, a.memory ∙ sym b.memory)
