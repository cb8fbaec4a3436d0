-- `save`: the contents and every field are put, one part after another, of whatever numbers have that body.
use Rattle.basics.proofs.Prelude.{refl}
use Rattle.image.specs.Shown.{form_view}
use Rattle.images.proofs.laws.Layout.{by_word, by_plain, by_field}
use Rattle.device.specs.state.View.{view}
use Rattle.stored.proofs.{saves.Putting.puts_then, saves.Putting.puts_all, saves.Putting.headed}
use Rattle.stored.proofs.save_state.save.Goals as goal

pub returns : goal.returns
returns c ns e = let d = view c.args.state in
    let f = form_view c.args.form in
    let h = headed f c.args.image.now c.requires.0 c.put_contents.ensures in
    puts_all f d ns h.0 h.1
    (by_field _ (by_word _ (λ h. refl) (λ h. refl) (λ h. refl) (λ h. refl) (by_plain _ (λ h. refl, λ h. refl, λ h. refl, λ h. refl, λ h. refl))) (λ h. refl) (λ h. refl) (λ h. refl, λ h. refl, λ h. refl) (λ h. refl, λ h. refl))
    (puts_then f d ns
    (puts_then f d ns
    (puts_then f d ns (puts_then f d ns (c.save_lines.ensures d ns refl) (c.save_stored.ensures d ns refl)) (c.save_tables.ensures d ns refl refl))
    (c.save_ring.ensures d ns refl))
    (c.save_numbers.ensures d ns e))
