use Rattle.std.proofs.Common.{◌+◌, ap, ◌∙◌}
use Rattle.zic_tzif.specs.Header.{Counts, block_length, second_block}
use Rattle.zic_tzif.proofs.ReadParts.{at_times, at_numbers, at_types, at_names, at_indicators, times_cut, numbers_cut, records_cut, names_cut, indicators_cut}
use Rattle.zic_tzif.proofs.data_block.DataBlock.second.Goals as goal

pub returns : goal.returns
returns c =
    let o = c.args.octets.now in
    let counts = c.args.counts in
    let p-is = c.requires.place in
    let c-is = c.requires.counts in
    let times = at_times o c.args.place c.split_at.result.1.now p-is c.split_at.ensures.back in
    let numbers = at_numbers o counts c.split_at.result.1.now c.split_at-2.result.1.now c-is times c.split_at-2.ensures.back in
    let types = at_types o counts c.split_at-2.result.1.now c.split_at-3.result.1.now c-is numbers c.split_at-3.ensures.back in
    let names = at_names o counts c.split_at-3.result.1.now c.split_at-4.result.1.now c-is types c.split_at-4.ensures.back in
    let indicators = at_indicators o counts c.split_at-4.result.1.now c.split_at-5.result.1.now c-is names c.split_at-5.ensures.back in
    record {
      times = times_cut o counts c.split_at.result.1.now c.split_at-2.result.0.now c-is times c.split_at-2.ensures.front;
      numbers = numbers_cut o counts c.split_at-2.result.1.now c.split_at-3.result.0.now c-is numbers c.split_at-3.ensures.front;
      types = ap (λ (d : Counts). d.types) c-is;
      records = records_cut o counts c.split_at-3.result.1.now c.split_at-4.result.0.now c-is types c.split_at-4.ensures.front;
      names = names_cut o counts c.split_at-4.result.1.now c.split_at-5.result.0.now c-is names c.split_at-5.ensures.front;
      indicators = indicators_cut o counts c.split_at-5.result.1.now c.split_at-6.result.0.now c-is indicators c.split_at-6.ensures.front;
      end = ap (λ n. n + c.block_length.result) p-is ∙ ap (λ n. second_block o + n) (c.block_length.ensures ∙ ap (λ (d : Counts). block_length d 8) c-is);
    }
