-- The ways through the code that looks for a part's tree of offers.
use Rattle.std.specs.Prelude.{◌≡◌, refl, Bool, true, false, Option, None, Some, List, ℕ, eqb, length}
use Rattle.std.proofs.Common.{◌∙◌, ap, subst₂, arith, eqb-true, eq-eqb}
use Rattle.std.specs.Bool.{then_some}
use Rattle.lists.specs.Bools.{never}
use Rattle.trees.specs.Tree.{Tree, leaves}
use Rattle.dynamic.specs.Valid.{book_lines}
use Rattle.table.specs.Fields.{envelope_root_word, most_levels, most_nodes, offer_tree, offers_root_word}
use Rattle.table.specs.Words.{Words, word, up_to}
use Rattle.table.specs.Items.{Item}
use Rattle.check_trees.specs.declared.Filled.{Filled}
use Rattle.check_trees.specs.Stretches.{span_none}
use Rattle.check_trees.specs.Deciding.{Decides, decides_no, decides_yes}
use Rattle.check_trees.specs.Laid.{items_at}
use Rattle.check_trees.specs.Fills.{Fills}
use Rattle.check_offers.specs.Headers.{Header}
use Rattle.check_offers.specs.Orders.{StandsAt, Orders, stands_most, stands_filled, filled_tree, filled_next, filled_items}
use Rattle.check_offers.specs.Envelops.{Envelops}
use Rattle.check_offers.specs.OffersFound.{OffersFound, OffersAt, Offers}
use Rattle.check_offers.specs.OffersSound.{offers_sound, offers_none_sound}
use Rattle.check_offers.specs.OffersComplete.{offers_header, offers_complete, offers_none_complete}

module _ {w : Words} {x e : ℕ} (ex : x ≡ up_to most_nodes (word w offers_root_word)) (ee : e ≡ up_to most_nodes (word w envelope_root_word)) where
  offers_no : {xs xs' : List ℕ} → length xs' ≡ length xs → (OffersFound w → ⊥) → Offers w xs xs' None
  offers_no l f = record { long = l; told = decides_no f; inside = tt; listed = tt }

  module _ {h : Bool} (H : Decides h (Header w x e)) where
    pub offers_no_header : {xs : List ℕ} → h ≡ false → Offers w xs xs None
    offers_no_header f = offers_no refl (λ s. never (H.complete (offers_header ex ee s)) f)

    module _ (oh : h ≡ true) where
      -- no root, no offers
      pub offers_none : {xs : List ℕ} {r : Option ℕ} → x ≡ 0 → r ≡ then_some (eqb e 0) 0 → Offers w xs xs r
      offers_none {xs} z q = rw q (go (eqb e 0) refl)
        where
          go : (b : Bool) → eqb e 0 ≡ b → Offers w xs xs (then_some b 0)
          go true o =
              record {
                long = refl;
                told = decides_yes (offers_none_sound (subst₂ (Header w) z (eqb-true e 0 o) (H.sound oh)));
                inside = omega arith;
                listed = λ s. ap (items_at w) (span_none xs 0 0 (omega arith)) ∙ (offers_none_complete ex ee z s).1;
              }
          go false o = offers_no refl (λ s. never (eq-eqb e 0 (offers_none_complete ex ee z s).0) o)

      module _ (some_root : x ≡ 0 → ⊥) {xs xs₁ : List ℕ} {b : Bool} (O : Orders w x xs xs₁ b) where
        at : (s : OffersFound w) → OffersAt w x e (book_lines s.held)
        at s = offers_complete ex ee some_root s

        pub offers_no_order : b ≡ false → Offers w xs xs₁ None
        offers_no_order f = offers_no O.long (λ s. never (O.told.complete (record { tree = (at s).tree; stands = (at s).stands })) f)

        module _ {xs₂ : List ℕ} {v : Bool} (E : Envelops w x e xs₁ xs₂ v) where
          pub offers_no_envelope : v ≡ false → Offers w xs xs₂ None
          offers_no_envelope f = offers_no (E.long ∙ O.long) (λ s. never ((E.told (at s).tree (at s).stands).complete (at s).enveloped) f)

          pub offers_no_room : {xs₃ : List ℕ} → Fills w offer_tree x most_levels xs₂ xs₃ 0 None → Offers w xs xs₃ None
          offers_no_room F = offers_no (F.long ∙ E.long ∙ O.long) (λ s. never (stands_filled F (at s).stands) refl)

          pub offers_all : {xs₃ : List ℕ} {f : Filled} → b ≡ true → v ≡ true → Fills w offer_tree x most_levels xs₂ xs₃ 0 (Some f) →
              Offers w xs xs₃ (Some f.next)
          offers_all {xs₃} {f} ob ov F =
              record {
                long = F.long ∙ E.long ∙ O.long;
                told = decides_yes found;
                inside =
                    let same = ap (λ (t : Tree Item). length (leaves t)) (filled_tree F here.stands.laid) in
                    omega (arith, filled_next F, stands_most here.stands);
                listed = λ s. filled_items F ∙ ap leaves (filled_tree F (at s).stands.laid) ∙ (at s).lines_are;
              }
            where
              here : StandsAt w x
              here = O.told.sound ob

              found : OffersFound w
              found =
                  offers_sound
                  (record {
                    header = H.sound oh;
                    tree = here.tree;
                    stands = here.stands;
                    lines_are = refl;
                    enveloped = (E.told here.tree here.stands).sound ov;
                  })
