use Rattle.zic_compile.proofs.OneFiles.{one_list_of_texts}
use Rattle.zic_compile.proofs.laws.texts_have_one_list_of_files.Goals as goal

pub returns : goal.returns
returns c = one_list_of_texts
