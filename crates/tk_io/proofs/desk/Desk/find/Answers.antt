use Rattle.std.proofs.Common.{List, ℕ, sym, ap, ◌∙◌}
use Rattle.std.specs.Prelude.{position, string_bytes}
use Rattle.std.specs.Str.{bytes_eq}
use Rattle.tk_io.specs.declared.desk.MemFile.{MemFile}
use Rattle.tk_io.specs.Desk.{OnDesk, shown, find_file}
use Rattle.tk_io.proofs.DeskFiles.{position-map}
use Rattle.tk_io.proofs.desk.Desk.find.Goals as goal

pub returns : goal.returns
returns c =
    let name = c.args.name.now in
    record {
      place =
          c.place_in.ensures
          ∙ ap (λ (files : List MemFile). position (λ file. bytes_eq (string_bytes file.name) name) files) c.deref.ensures.value
          ∙ sym (position-map (λ (file : List ℕ × List ℕ). bytes_eq file.0 name) shown c.self.inside.files.items)
          ∙ ap (λ (d : OnDesk). find_file d name) c.self.view_is;
    }
