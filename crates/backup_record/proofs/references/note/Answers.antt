use Rattle.std.proofs.Common.{◌≡◌, ◌⊎◌, ◌++◌, List, [], ◌∷◌, inl, inr, ⊎_elim, sym, subst}
use Rattle.base_model.specs.declared.labels.Label.{Label}
use Rattle.base_model.specs.Text.{In}
use Rattle.base_model.proofs.Pushed.{in_left}
use Rattle.backup_plan.proofs.Lists.{in_parts}
use Rattle.backup_record.proofs.references.note.Goals as goal

last_in : (x : Label) (l : Label) → l ≡ x → (ls : List Label) → In l (ls ++ x ∷ [])
last_in x l e [] = inl e
last_in x l e (m ∷ ls) = inr (last_in x l e ls)

pub returns-in_ok-push : goal.returns-in_ok-push
returns-in_ok-push c = λ l. (
  λ k. ⊎_elim (λ (o : In l c.args.labels.now.items). inl o) (λ (o : In l (c.args.label ∷ [])). ⊎_elim (λ (e : l ≡ c.args.label). inr e) (λ (none : ⊥). absurd none) o)
      (in_parts c.args.labels.now.items (c.args.label ∷ []) l (subst (λ (ls : List Label). In l ls) c.in_ok-push.ensures.items k)),
  λ k. subst (λ (ls : List Label). In l ls) (sym c.in_ok-push.ensures.items)
      (⊎_elim (λ (o : In l c.args.labels.now.items). in_left l c.args.labels.now.items (c.args.label ∷ []) o) (λ (e : l ≡ c.args.label). last_in c.args.label l e c.args.labels.now.items) k),
)
