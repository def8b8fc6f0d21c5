-- The proof of the claim about a history (`Claim`, in History): from an accepted opening, whatever the capacity, the start and the words were, and
-- after any list of posts, withdrawals, take-backs, queries, listings and reports, refused ones among them.
use Rattle.std.specs.Prelude.{◌≡◌, refl, List, [], ◌∷◌, ℕ, ℤ}
use Rattle.std.proofs.Common.{sym, ◌∙◌, ap, subst}
use Rattle.std.proofs.Math.Option.{Option, none, some}
use Rattle.plain.specs.Causes.{Cause, declined}
use Rattle.plain.specs.Book.{State, Undo, Call, post, withdraw, query, listing, take_back, report, Answer, trials}
use Rattle.plain.specs.Book.{recalling, accepted, respond, step, after}
use Rattle.trees.specs.Height.{log_height}
use Rattle.dynamic.specs.OfferTree.{Held, Pair}
use Rattle.dynamic.specs.Heights.{offers_height, piece_height}
use Rattle.dynamic.specs.Work.{Work}
use Rattle.table.specs.Items.{Item}
use Rattle.pieces.specs.Pieces.{items}
use Rattle.form.specs.Form.{Form, OffersIn}
use Rattle.promises.specs.Promises.{part_of, Passes}
use Rattle.history.specs.History.{Happens, by_update, by_query, by_listing, by_report, History, LowPairs, Kept}
pub use Rattle.history.specs.History.{Low, Claim}

-- ---- heights

pub low_trees : (w : List ℤ) (held : Option (Held Item)) → OffersIn w held → Low held
low_trees w none o = tt
low_trees w (some h) o = (offers_height items o.right, piece_height items o.right)

-- so is every tree that went into a search
pub low_pairs : {before after : Option (Held Item)} {log : List (Pair Item)} → Work items before after log → LowPairs log
low_pairs w p m = let s = w.searched p m in (log_height s.left_balanced, log_height s.right_balanced)

-- ---- its proof

-- a call leaves the capacity as it was
pub step_capacity : (s : State) (k : Call) → (step s k).state.capacity ≡ s.capacity
step_capacity s k = go (declined (trials s k)) k
  where
    go : (d : Option Cause) (k : Call) → (respond s k d).state.capacity ≡ s.capacity
    go (some c) k = refl
    go none (post n r b) = refl
    go none (withdraw n) = refl
    go none (query q) = refl
    go none (listing room) = refl
    go none (report q p room) = refl
    go none take_back = taken s.memory
      where
        taken : (m : List Undo) → (accepted (recalling s s.offers m) take_back).state.capacity ≡ s.capacity
        taken [] = refl
        taken (u ∷ us) = refl

-- a query, a listing and a report leave the plain book as it was
pub read_state : (s : State) (k : Call) → (accepted s k).state ≡ s → (step s k).state ≡ s
read_state s k e = go (declined (trials s k))
  where
    go : (d : Option Cause) → (respond s k d).state ≡ s
    go (some c) = refl
    go none = e

-- what one call does to a part that stands for a plain book
pub record OneCall {start : ℕ} {t : List ℤ} {k : Call} {t' : List ℤ} {a : Answer} (s : State) (held : Option (Held Item)) (p : Happens start t k t' a) :
    Type 0 where
  pub mid : Option (Held Item)
  pub stands : Form (part_of t' start) (step s k).state mid
  pub told : a ≡ (step s k).answer
  pub kept : Kept s start p held mid

-- a call that leaves the words and the plain book
pub unmoved : (start : ℕ) {t t' : List ℤ} {s s' : State} {held : Option (Held Item)} → t' ≡ t → s' ≡ s → Form (part_of t start) s held →
    Form (part_of t' start) s' held
unmoved start {t} {s' = s'} {held} d e form = subst (λ (u : List ℤ). Form (part_of u start) s' held) (sym d)
    (subst (λ (x : State). Form (part_of t start) x held) (sym e) form)

pub one_call : {start : ℕ} {t : List ℤ} {k : Call} {t' : List ℤ} {a : Answer} (s : State) (held : Option (Held Item)) (p : Happens start t k t' a) →
    Form (part_of t start) s held → OneCall s held p
one_call s held (by_update c u p e) form =
    let f = p.follows s held form in
    record { mid = f.after; stands = f.stands; told = e ∙ f.answers; kept = (f, refl, low_pairs f.work) }
one_call {start} s held (by_query q f p d e) form =
    record {
      mid = held;
      stands = unmoved start d (read_state s (query q) refl) form;
      told = e ∙ p.answers s held form.book;
      kept = (p.probes s held form.book, refl);
    }
one_call {start} s held (by_listing {room} out out' l p m d e) form =
    record {
      mid = held;
      stands = unmoved start d (read_state s (listing room) refl) form;
      told = e ∙ p.answers s held form.book ∙ ap (λ (n : ℕ). (step s (listing n)).answer) (sym m);
      kept = refl;
    }
one_call {start} s held (by_report {room} q p out out' r k m d e) form =
    record {
      mid = held;
      stands = unmoved start d (read_state s (report q p room) refl) form;
      told = e ∙ k.answers s held form.book ∙ ap (λ (n : ℕ). (step s (report q p n)).answer) (sym m);
      kept = refl;
    }

-- so the part passes the check
pub history_passes : {c start : ℕ} {t : List ℤ} {ks : List Call} {as' : List Answer} {t' : List ℤ} {s : State} {held : Option (Held Item)}
    {h : History c start t ks as' t'} → Claim s held h → Passes start t'
history_passes {ks = ks} {s = s} q = (after s ks, q.held, q.stands)
