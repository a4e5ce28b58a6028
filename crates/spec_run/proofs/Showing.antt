-- What is committed is the next entry of the story.
use Rattle.std.proofs.Common.{arith, ◌≡◌, ℕ, zero, suc, ◌<◌, List, [], ◌∷◌, length, get_or, slice_get, Some, true, inl, inr, ap, sym, ◌∙◌, subst}
use Rattle.std.proofs.lemmas.Bool.{cases_eq}
use Rattle.std.proofs.lemmas.List.{get_or_append_left, get_or_push}
use Rattle.mp_base.specs.declared.cell.Entry.{Entry}
use Rattle.mp_base.specs.Grid.{cat_of}
use Rattle.event_retrieve.specs.Plan.{Plan, IsPlan, grid_at, nodes_in}
use Rattle.event_retrieve.specs.Gather.{MayBeRead, is_early}
use Rattle.event_retrieve.specs.Sequential.{log_of, entry_after, sequential}
use Rattle.event_retrieve.proofs.Gathered.{read_after}
use Rattle.event_retrieve.proofs.Logs.{length-log_of}
use Rattle.shared_grid.specs.Reads.{ShowsSince}
use Rattle.shared_grid.proofs.Moments.{get_at}

entry_in : (p : Plan) (n m : ℕ) (d : Entry) → m < n → get_or (log_of p n) m d ≡ entry_after p (log_of p m) m
unfolding log_of
entry_in p zero m d below = absurd (omega arith)
entry_in p (suc n) m d below = elim (cases_eq m n) [
  | inl last ↦ get_or_push (log_of p n) (entry_after p (log_of p n) n) d m (length-log_of p n ∙ sym last) ∙ ap (λ k. entry_after p (log_of p k) k) (sym last)
  | inr before ↦ get_or_append_left (log_of p n) (entry_after p (log_of p n) n ∷ []) d m (omega (arith, length-log_of p n)) ∙ entry_in p n m d (omega arith)
]

-- entry m of the sequential log
pub entry_at : (p : Plan) (m : ℕ) (e : Entry) → m < nodes_in p → e ≡ entry_after p (log_of p m) m → slice_get (sequential p) m ≡ Some e
entry_at p m e left is =
    get_at (sequential p) m e (omega (arith, left, length-log_of p (nodes_in p))) ∙ ap (λ (x : Entry). Some x) (entry_in p (nodes_in p) m e left ∙ sym is)

-- what a cell shows while the sequential log is stored may be read of it
pub shown_may : (p : Plan) → IsPlan p → (story : List Entry) → story ≡ sequential p → (seen i c : ℕ) (v : _) → i < nodes_in p → is_early p i c ≡ true → ShowsSince p story seen c v → MayBeRead p seen i c v
shown_may p plan story is seen i c v within early shows =
    let few : length story ≡ nodes_in p = ap (λ (l : List Entry). length l) is ∙ length-log_of p (nodes_in p) in
    let read = read_after p plan.path seen i shows.0 c shows.1 (omega (arith, shows.2, few)) (omega (arith, within)) early in
    subst (λ v. MayBeRead p seen i c v) (sym (shows.3 ∙ ap (λ (l : List Entry). cat_of (grid_at p l shows.0).cells c) is)) read
